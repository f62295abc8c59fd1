pub mod Keywords
pub mod Lines
pub mod Scanning
