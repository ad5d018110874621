pub mod TakingLemmas
pub mod WritingLemmas
mod CountLemmas
mod HeldLemmas
mod FetchLemmas
