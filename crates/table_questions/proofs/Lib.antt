pub mod StartLaws
pub mod AmongLaws
pub mod AskedLaws
