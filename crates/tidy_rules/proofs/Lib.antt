pub mod KeyLaws
pub mod OrderLaws
pub mod FewerLaws
pub mod TidyLaws
pub mod RotaLaws
pub mod WrittenLaws
