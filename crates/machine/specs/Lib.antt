pub mod Believed
pub mod Answers
pub mod Core
