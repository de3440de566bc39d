pub mod PairLaws
pub mod LinkLaws
pub mod EntryLaws
pub mod KeyLaws
