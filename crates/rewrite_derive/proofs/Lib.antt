pub mod MarkLaws
pub mod NamedLaws
pub mod ScratchLaws
pub mod DeriveLaws
