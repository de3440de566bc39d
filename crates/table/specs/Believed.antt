pub mod Table
pub mod TableBytes
pub mod TableRefusals
pub mod Answers
