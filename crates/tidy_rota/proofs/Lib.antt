pub mod BytesLaws
pub mod PutLaws
pub mod LocatedLaws
