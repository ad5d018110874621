pub mod EachLemmas
mod BuiltLemmas
mod GrowingLemmas
mod ScopeLemmas
pub mod GlossaryLemmas
mod WayLemmas
mod CopyLemmas
mod SmallParts
mod WalkLemmas
mod RuleLemmas
mod WalkSteps
mod GuardLemmas
