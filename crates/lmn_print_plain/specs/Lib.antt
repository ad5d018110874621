pub mod Rows
pub mod Parts
pub mod Stored
pub mod Walks
pub mod Numbers
pub mod NumberExamples
pub mod Writing
pub mod HeapLaws
