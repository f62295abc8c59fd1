pub mod Parts
pub mod Judging
pub mod Contents
pub mod Complete
pub mod Reading
pub mod Cuts
