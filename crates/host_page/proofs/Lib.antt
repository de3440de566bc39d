pub mod PageLaws
pub mod EachLaws
pub mod PageWalk
pub mod PageLoop
