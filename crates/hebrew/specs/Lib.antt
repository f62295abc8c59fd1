pub mod Calendar
pub mod Tishri
pub mod Tables
pub mod Twins
