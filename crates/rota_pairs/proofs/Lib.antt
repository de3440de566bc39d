pub mod Worked
pub mod ReachLaws
pub mod HierarchyTheorems
pub mod HandedDownLaws
pub mod PairsWorked
pub mod PairLaws
pub mod FillingLaws
