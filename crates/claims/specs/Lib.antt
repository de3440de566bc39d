pub mod Believed
pub mod Worked
