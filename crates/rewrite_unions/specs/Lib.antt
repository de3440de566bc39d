pub mod Union
pub mod Tables
