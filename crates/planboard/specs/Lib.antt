pub mod Answers
pub mod Coded
pub mod Lists
pub mod View
