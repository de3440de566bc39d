pub mod NumberLaws
pub mod PermittedLaws
pub mod RestLaws
pub mod HeldLaws
