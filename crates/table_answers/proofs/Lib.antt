pub mod SourceLaws
pub mod GrantLaws
pub mod AnswerLaws
pub mod HoldersLaws
