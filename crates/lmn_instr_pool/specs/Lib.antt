pub mod Examples
pub mod Extents
pub mod Pools
pub mod Stored
