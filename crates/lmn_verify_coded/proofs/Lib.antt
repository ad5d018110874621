pub mod Stops
mod Asking
mod Awake
mod Endings
mod Lines
mod Stopping
mod Countings
mod Turned
mod Driven
mod Small
mod Compared
mod OfSolids
mod OneSolid
