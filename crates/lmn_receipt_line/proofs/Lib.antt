pub mod ComparingLemmas
pub mod ItemLemmas
pub mod WalkLemmas
pub mod LineLemmas
pub mod CountLemmas
pub mod FrontLemmas
