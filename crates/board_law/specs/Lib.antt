pub mod Boards
pub mod Judging
pub mod Leaves
pub mod Meanings
pub mod Runs
pub mod Texts
