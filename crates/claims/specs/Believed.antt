pub mod Tidied
pub mod Demand3
pub mod NextUses
pub mod Sleeping
pub mod Touching
pub mod Boards
