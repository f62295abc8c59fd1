pub mod Fields
pub mod Marks
pub mod Meanings
pub mod Ranges
pub mod Reading
pub mod Refusals
pub mod Shown
