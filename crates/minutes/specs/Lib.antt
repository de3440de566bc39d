pub mod Believed
pub mod First
pub mod Lasting
