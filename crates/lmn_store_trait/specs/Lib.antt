pub mod Awake
pub mod Examples
