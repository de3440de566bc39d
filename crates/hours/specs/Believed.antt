pub mod Hours
pub mod HoursBytes
pub mod HoursRefusals
