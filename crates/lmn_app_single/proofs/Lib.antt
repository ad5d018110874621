pub mod PlainRegions
pub mod TextLemmas
pub mod RunLemmas
pub mod OutcomeLemmas
pub mod ListLemmas
pub mod DriveLemmas
pub mod DemoLemmas
pub mod TaskLemmas
