pub mod Heads
pub mod Flattening
pub mod Guards
pub mod Embeddings
pub mod Examples
