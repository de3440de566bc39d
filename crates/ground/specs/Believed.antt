pub mod Choice
pub mod Outcome
pub mod Judgement
pub mod Search
pub mod Sequence
