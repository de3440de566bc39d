pub mod Hierarchy
pub mod Worked
pub mod HandedDown
pub mod Pairs
pub mod Filling
pub mod PairsWorked
