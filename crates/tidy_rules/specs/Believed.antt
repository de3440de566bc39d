pub mod Tidy
pub mod Same
