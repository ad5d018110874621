pub mod Operands
pub mod Verified
pub mod VerifiedExamples
pub mod Passing
pub mod Counted
pub mod NameExamples
