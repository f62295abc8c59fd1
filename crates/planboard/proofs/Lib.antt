pub mod Listed
pub mod Stored
pub mod Wrotes
pub mod Answering
pub mod Runs
pub mod Sames
