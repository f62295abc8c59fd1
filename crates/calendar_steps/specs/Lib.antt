pub mod Days
pub mod Standing
