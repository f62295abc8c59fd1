pub mod Carrying
pub mod Law
pub mod Measuring
pub mod Standing
pub mod Stepping
