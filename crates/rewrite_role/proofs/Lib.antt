pub mod SlotLaws
pub mod LocatedLaws
pub mod DerivedLaws
