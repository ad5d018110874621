pub mod Settling
pub mod Choosing
pub mod Laws
pub mod Searching
pub mod Asking
pub mod Firing
pub mod Examples
