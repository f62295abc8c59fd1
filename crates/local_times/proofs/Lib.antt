pub mod Bridge
pub mod Landings
pub mod Locals
pub mod Nearness
pub mod Relations
pub mod Results
pub mod Walks
