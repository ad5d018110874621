pub mod ItemLemmas
pub mod OnePlaces
