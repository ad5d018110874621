pub mod Only
pub mod Noting
pub mod Laws
pub mod Ordering
pub mod Guarding
pub mod Values
pub mod ToCode
pub mod FromTests
pub mod Pigeons
pub mod FromCode
pub mod Counting
pub mod Nesting
pub mod Places
pub mod Holding
pub mod Bounds
pub mod HeadLeaves
pub mod HeadUses
pub mod PlanKinds
mod GuardUses
mod AcceptedHeads
pub mod GuardRoom
pub mod Common
