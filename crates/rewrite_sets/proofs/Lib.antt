pub mod UnionLaws
pub mod SetsLaws
pub mod RoleLaws
