pub mod Believed
pub mod RotaWell
pub mod Through
pub mod Worked
pub mod Alike
pub mod Inside
