pub mod AddLaws
pub mod CountLaws
pub mod GatheredLaws
pub mod RowLaws
pub mod ToldLaws
pub mod BoardLaws
pub mod QuestionLaws
