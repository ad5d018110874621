mod Listed
mod InOrder
pub mod Ready
mod Finds
mod Links
pub mod Items
mod Heads
mod Rules
mod Twice
mod Linked
mod Linking
mod Rests
mod Bodies
mod Classes
mod Ties
mod Tied
mod Exchanged
mod Turned
mod TiesCan
mod Before
mod Shape
mod Commits
mod Drops
mod Dropped
mod Runnable
mod Fires
pub mod Unmarked
pub mod Integers
mod FlatRules
mod Failing
mod Quiet
mod VerifiedIsFlat
mod RestsBack
mod RestsThere
