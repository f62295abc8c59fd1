pub mod Days
pub mod Known
pub mod Moves
