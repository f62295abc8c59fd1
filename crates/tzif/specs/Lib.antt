pub mod Fields
pub mod File
pub mod Good
pub mod Places
