pub mod Believed
pub mod From
