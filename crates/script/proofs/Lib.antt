pub mod Cuts
pub mod Forms
pub mod Rooms
pub mod Runs
