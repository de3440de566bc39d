pub mod UnionLaws
pub mod SplitLaws
pub mod TableLaws
