pub mod Cuts
pub mod Distinct
pub mod Joined
pub mod Rewriting
pub mod Meaning
pub mod Untimed
