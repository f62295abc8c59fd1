pub mod Divisors
pub mod Faults
pub mod Instants
pub mod Searches
pub mod Spans
pub mod Splits
