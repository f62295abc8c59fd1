pub mod Gregorian
pub mod Proleptic
pub mod Twins
