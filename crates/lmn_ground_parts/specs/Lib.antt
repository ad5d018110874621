pub mod Walks
pub mod Copies
pub mod Rests
