pub mod OneReading
pub mod HeadCodes
pub mod AcceptedCodes
pub mod Kept
pub mod ListedTables
pub mod CompiledListings
pub mod ListingExamples
pub mod Laws
