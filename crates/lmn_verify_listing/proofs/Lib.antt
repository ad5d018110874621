pub mod OpcodeLemmas
pub mod Places
pub mod OperandLemmas
pub mod LineLemmas
pub mod ReachingLemmas
pub mod CodeLemmas
pub mod Exclusion
mod Relabelled
mod NeitherListed
