pub mod Emptied
pub mod Written
