pub mod Rows
pub mod Cells
pub mod Fillings
pub mod CellIds
pub mod Ports
pub mod Links
pub mod Numbers
pub mod Runs
