pub mod DigitLaws
pub mod PutLaws
pub mod Worked
