pub mod ExampleCodes
pub mod Extents
pub mod Picking
