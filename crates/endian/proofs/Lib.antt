pub mod WrittenLaws
pub mod StandsLaws
pub mod PartLaws
pub mod RestLaws
pub mod ByteLaws
