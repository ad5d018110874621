pub mod Labels
pub mod WebHeaps
pub mod WebStores
pub mod Indexes
pub mod Tables
pub mod Examples
pub mod Sends
pub mod Frees
