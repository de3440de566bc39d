pub mod PairLaws
pub mod HoldsLaws
pub mod JudgeLaws
