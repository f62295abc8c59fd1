pub mod Holding
pub mod Walks
