pub mod RowSets
