pub mod Believed
pub mod Masks
pub mod Roles
pub mod Kinds
pub mod Constancy
pub mod Worked
