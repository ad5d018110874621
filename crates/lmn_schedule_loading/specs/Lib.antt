pub mod Adding
pub mod Joining
pub mod Loaded
pub mod Laws
