pub mod Answered
pub mod Ordered
pub mod Questions
