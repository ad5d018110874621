pub mod Numbers
pub mod Reading
pub mod Calls
pub mod Solids
pub mod Parts
pub mod Heads
pub mod Lists
pub mod Matching
pub mod Alike
pub mod Composed
pub mod Room
mod Compared
pub mod Mapped
mod FiringReading
mod Walking
mod Matched
mod Agreeing
mod Standing
mod Twins
mod Aligned
mod Fresh
mod Pairs
mod Ends
mod Others
mod Fusing
mod Firings
mod FiringCompared
