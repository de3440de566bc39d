pub mod MaskLaws
pub mod KeyLaws
pub mod RowLaws
pub mod EraLaws
