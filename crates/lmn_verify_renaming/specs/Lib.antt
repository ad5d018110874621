pub mod Renamed
pub mod Laws
pub mod Registers
pub mod Examples
pub mod FiringLaws
pub mod FiringExamples
