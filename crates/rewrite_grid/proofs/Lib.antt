pub mod OrderLaws
pub mod FieldLaws
pub mod JoinLaws
pub mod MaskLaws
pub mod LaidLaws
pub mod StretchLaws
