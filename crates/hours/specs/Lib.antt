pub mod Believed
pub mod HoursWell
pub mod Answers
pub mod Inside
