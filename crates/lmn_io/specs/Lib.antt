pub mod Counts
pub mod Taking
pub mod Writing
pub mod Gathering
pub mod Texts
pub mod Memory
