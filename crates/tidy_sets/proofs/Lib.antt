pub mod PartLaws
pub mod SlotRowLaws
pub mod OutLaws
pub mod PutLaws
