pub mod Guards
pub mod Staying
pub mod Marks
pub mod Lasting
pub mod SmallHeaps
