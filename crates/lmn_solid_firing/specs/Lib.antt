pub mod Laws
pub mod Making
pub mod Meant
pub mod Spelled
pub mod Matched
pub mod Pieces
pub mod Examples
