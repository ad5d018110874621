pub mod Comparing
pub mod Walking
