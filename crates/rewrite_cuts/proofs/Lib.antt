pub mod InsertLaws
pub mod RecordLaws
