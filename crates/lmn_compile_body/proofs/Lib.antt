pub mod Steps
pub mod Bounds
mod Registers
pub mod BodyTrees
pub mod Accepted
pub mod HeadContexts
mod Nested
