pub mod Calendar
pub mod Formula
