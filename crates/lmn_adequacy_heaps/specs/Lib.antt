pub mod HeapRegions
pub mod Numbers
pub mod Bindings
pub mod Premises
pub mod Laws
pub mod Parts
pub mod Examples
