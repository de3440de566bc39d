pub mod ScratchLaws
pub mod KeptLaws
pub mod RowLaws
pub mod CountLaws
