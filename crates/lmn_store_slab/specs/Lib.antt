pub mod Lines
pub mod Cells
pub mod Kept
pub mod Moves
pub mod SlabStores
pub mod Checks
