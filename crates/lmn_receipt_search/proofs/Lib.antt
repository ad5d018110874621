mod Asks
mod Firings
mod Rounds
mod Places
mod Fired
mod Found
mod Planned
pub mod Beginning
mod MadeItems
mod Counted
mod Sizing
mod PathDepths
mod QuietPieces
mod QuietRules
mod QuietRegions
mod NameFeeds
