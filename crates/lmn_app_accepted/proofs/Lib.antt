pub mod Listed
mod FewLinks
pub mod PlanKinds
pub mod Items
pub mod Trees
pub mod Expressions
pub mod InTurns
pub mod Types
pub mod Counts
pub mod AcceptedRules
pub mod AcceptedTexts
mod NumbersBack
mod HeldLevels
mod SameTrees
mod SameGuards
mod SamePlainTrees
mod OneProcess
mod LongerLists
pub mod FirstNames
pub mod Loadable
pub mod ReadPlains
