pub mod BoolLaws
pub mod OutcomeLaws
pub mod JudgementLaws
pub mod SearchLaws
pub mod SequenceLaws
pub mod ListLaws
pub mod FromLaws
