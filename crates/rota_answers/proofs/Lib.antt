pub mod GatherRows
pub mod QuestionLaws
pub mod AskedLaws
pub mod HoldersUp
