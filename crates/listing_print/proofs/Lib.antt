pub mod ListingLaws
pub mod Worked
