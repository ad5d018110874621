pub mod Scripts
pub mod Asked
pub mod Lines
pub mod Laws
pub mod Examples
