pub mod Levels
mod Rules
pub mod Readings
mod SameRules
pub mod OneRead
pub mod AcceptedOrRefused
pub mod CodeLemmas
pub mod ListedNames
mod NamedParts
pub mod NamedPlains
