pub mod Reading
pub mod NameOrder
pub mod Lines
