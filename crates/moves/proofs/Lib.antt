pub mod Answers
pub mod Endings
pub mod Farthest
