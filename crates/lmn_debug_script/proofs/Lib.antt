pub mod LineLemmas
pub mod Cuts
pub mod OneOrder
pub mod Deciding
pub mod SomeOrders
pub mod ScriptLaws
pub mod Worked
