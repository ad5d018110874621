pub mod Forms
pub mod Lines
pub mod Taking
pub mod Listings
pub mod Reaching
pub mod ListingLaws
