pub mod Renumbered
pub mod RenumberedLaws
pub mod Scopes
pub mod Outside
pub mod Numberings
pub mod Tallies
