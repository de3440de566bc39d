pub mod TurnLaws
pub mod WalkLaws
pub mod KeyLaws
