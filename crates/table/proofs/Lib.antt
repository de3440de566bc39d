pub mod FineLaws
pub mod HeaderLaws
pub mod EntryLaws
pub mod OpenedLaws
