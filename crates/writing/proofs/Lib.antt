pub mod Copies
pub mod FractionDigits
pub mod Placings
pub mod Puttings
