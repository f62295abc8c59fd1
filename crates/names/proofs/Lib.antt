pub mod NameAnswers
pub mod ZoneAnswers
