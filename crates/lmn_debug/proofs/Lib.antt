mod CountLemmas
mod ExampleCourses
mod Exactness
mod Held
mod Traces
pub mod Turns
pub mod Obeyings
mod TraceParts
mod OneOutcome
pub mod ExampleOrders
