pub mod Fractions
pub mod Placing
pub mod Putting
