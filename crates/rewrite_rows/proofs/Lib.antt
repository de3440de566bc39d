pub mod WriteLaws
pub mod FieldLaws
pub mod EraLaws
pub mod CountLaws
