pub mod CensusLemmas
pub mod SlotLemmas
pub mod RuleLemmas
pub mod CountLemmas
pub mod RuleCounts
pub mod PlaceLemmas
