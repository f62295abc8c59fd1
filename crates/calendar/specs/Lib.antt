pub mod Calendars
pub mod Joining
pub mod Namings
pub mod Orders
pub mod Questions
pub mod Singles
pub mod Joins
pub mod SingleLaws
