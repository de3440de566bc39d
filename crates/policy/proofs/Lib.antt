pub mod PolicyLaws
pub mod QuestionOutcome
pub mod NextUseLaws
pub mod SteadyLaws
