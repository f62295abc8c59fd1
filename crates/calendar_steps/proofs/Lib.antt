pub mod Asked
pub mod Climbs
pub mod Dating
pub mod Most
pub mod Plain
pub mod Strides
pub mod Wholes
