pub mod KeyRowLaws
pub mod KeyLaws
