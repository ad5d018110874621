pub mod Tables
pub mod Shapes
pub mod Naming
pub mod Accepted
