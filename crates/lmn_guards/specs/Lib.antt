pub mod Values
pub mod GuardCodes
pub mod Conditions
pub mod Plans
pub mod Accepted
pub mod Examples
