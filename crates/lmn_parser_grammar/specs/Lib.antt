pub mod Examples
pub mod Grammar
pub mod Factored
pub mod Reading
pub mod Limits
pub mod Scan
pub mod Laws
pub mod Refusing
