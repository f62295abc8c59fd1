pub mod Chunks
pub mod Lookups
