pub mod Printed
pub mod Walked
pub mod Lines
pub mod Texts
pub mod Laws
