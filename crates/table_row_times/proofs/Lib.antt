pub mod SpanLaws
pub mod RowLaws
