pub mod Numerals
pub mod Offsets
pub mod Trip
