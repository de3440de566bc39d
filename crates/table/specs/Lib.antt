pub mod Believed
pub mod TableWell
pub mod Inside
