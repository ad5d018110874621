mod FeedLemmas
mod SmallReadings
pub mod ReadingLemmas
