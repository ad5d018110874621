pub mod Terms
pub mod Folding
pub mod Words
pub mod Lines
pub mod Laws
pub mod Examples
