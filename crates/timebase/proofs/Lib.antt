pub mod Enterables
pub mod Searches
