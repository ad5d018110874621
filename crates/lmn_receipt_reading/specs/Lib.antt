pub mod Windows
pub mod Readings
pub mod Seen
pub mod Examples
