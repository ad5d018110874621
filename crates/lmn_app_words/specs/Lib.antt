pub mod Forms
pub mod Hearing
pub mod Laws
pub mod Parsing
