pub mod Names
pub mod Scanning
pub mod ZoneNames
pub mod ZoneNamings
pub mod ZoneScanning
