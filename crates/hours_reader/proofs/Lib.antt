pub mod RefLaws
pub mod WalkLaws
pub mod RecordLaws
pub mod RecordBytesLaws
pub mod ByteLaws
