pub mod Fired
pub mod FiringLaw
pub mod FiredLevels
pub mod Laying
pub mod Links
pub mod MadeLeaves
pub mod MadeLevels
pub mod NumberLemmas
pub mod Reading
pub mod Waiting
pub mod Wholes
pub mod Fine
pub mod FineLevels
pub mod SpelledLaw
mod ClosesAbove
mod LinksUnder
mod Ranges
mod Known
mod Leaving
mod Standing
mod SettledRules
mod Telling
mod Walking
mod Wiring
mod Shown
