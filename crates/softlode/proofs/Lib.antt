pub mod AskedHere
pub mod AskedTwo
pub mod LeftHere
pub mod LeftLaws
pub mod LeftOne
pub mod LentOne
pub mod LentTwo
