pub mod Digits
pub mod Lines
pub mod Places
pub mod Reading
