pub mod ChainLemmas
pub mod WalkLemmas
mod SmallChains
pub mod LineBytes
mod OneSolid
mod OneChain
mod ChainOrWrong
pub mod LineItems
mod SmallMembranes
mod SmallMarks
mod FrameLemmas
mod AlikeLemmas
mod LeftOutLemmas
mod FirstLines
mod WindowLemmas
mod ReadLemmas
