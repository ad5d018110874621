pub mod Keepers
pub mod Moves
pub mod Examples
