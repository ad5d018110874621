pub mod Raw
pub mod Tables
pub mod Levels
