pub mod ScanLaws
pub mod FallLaws
