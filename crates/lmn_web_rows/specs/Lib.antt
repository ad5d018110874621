pub mod Rows
pub mod Owned
pub mod Tiles
pub mod Seen
pub mod Keeping
pub mod Examples
