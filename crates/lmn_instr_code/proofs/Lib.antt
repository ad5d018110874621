pub mod Worked
pub mod ListingLemmas
pub mod Meant
