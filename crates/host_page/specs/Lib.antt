pub mod Believed
pub mod Inside
