pub mod KeptWeight
pub mod FiredWeight
mod KeptLowered
pub mod Bounds
mod BoundLemmas
pub mod SmallWeights
mod FunctorTexts
mod IndexLemmas
mod LineLemmas
mod OneTelling
mod SomeTelling
mod LineExamples
pub mod AlikePlains
mod WeightsAgree
mod Integers
mod LoweredTrees
pub mod Bounded
mod Sizes
mod Nothing
