pub mod Graphs
pub mod Heads
pub mod Firing
pub mod Turns
pub mod Heaps
pub mod Flats
pub mod Laws
pub mod Examples
