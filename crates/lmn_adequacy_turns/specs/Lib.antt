pub mod Laws
pub mod Accepted
pub mod Bound
pub mod BoundExamples
pub mod Ends
pub mod Standing
pub mod Turning
pub mod Commits
