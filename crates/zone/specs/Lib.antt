pub mod Joining
pub mod Joins
pub mod Offsets
pub mod Questions
pub mod Zones
