pub mod Believed
pub mod Parts
