pub mod Answering
pub mod Complete
pub mod Forms
pub mod Live
pub mod Sound
pub mod Tagging
pub mod Values
