pub mod Turns
pub mod Counting
pub mod Laws
pub mod Examples
