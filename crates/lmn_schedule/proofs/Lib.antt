mod Named
pub mod Loaded
pub mod Turned
pub mod Counted
mod Holding
mod Sleeping
pub mod AllWake
pub mod Common
