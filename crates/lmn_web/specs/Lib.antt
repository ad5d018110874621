pub mod Kinds
pub mod Webs
pub mod Indexes
pub mod Classes
pub mod Examples
