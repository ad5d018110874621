pub mod Tables
pub mod Building
pub mod Flats
pub mod Examples
