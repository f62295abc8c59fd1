pub mod NamedLaws
pub mod Naming
pub mod Ranges
pub mod StepLaws
pub mod Steps
pub mod Telling
