pub mod Walks
pub mod Kept
pub mod Calls
pub mod Listed
