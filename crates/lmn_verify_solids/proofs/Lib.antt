pub mod HeapsAreGraphs
pub mod GraphsHaveHeaps
pub mod HeadsAlike
pub mod Fired
pub mod FiredBack
pub mod EachTie
pub mod Small
pub mod Members
