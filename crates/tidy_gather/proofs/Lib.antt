pub mod SlotLaws
pub mod PlaceLaws
pub mod MarkLaws
