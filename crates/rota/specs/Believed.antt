pub mod Rota
pub mod RotaBytes
pub mod Order
pub mod RotaRefusals
pub mod Answers
