pub mod FirstLaws
pub mod WindowLaws
pub mod LastingLaws
