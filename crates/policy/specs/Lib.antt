pub mod Believed
pub mod Held
