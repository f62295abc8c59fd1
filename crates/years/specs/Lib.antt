pub mod Dates
pub mod Days
pub mod Lengths
pub mod Places
pub mod Rules
