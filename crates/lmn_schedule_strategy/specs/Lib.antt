pub mod Choosing
pub mod Counting
pub mod Turns
pub mod Quieting
pub mod Examples
pub mod Between
