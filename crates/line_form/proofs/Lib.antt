pub mod LineLive
pub mod LineSound
pub mod LineComplete
pub mod LineAnswers
