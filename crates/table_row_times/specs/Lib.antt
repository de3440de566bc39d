pub mod RowFirst
