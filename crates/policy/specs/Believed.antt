pub mod Policy
pub mod NextUse
pub mod Steady
