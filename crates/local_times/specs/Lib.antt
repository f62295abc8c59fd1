pub mod Chains
pub mod Locals
pub mod Meeting
pub mod Meets
pub mod Walk
