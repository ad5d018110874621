pub mod Heads
pub mod Laws
pub mod Tables
pub mod Entries
pub mod Bindings
pub mod Accepted
pub mod Adding
