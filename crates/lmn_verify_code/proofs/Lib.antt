pub mod VerifiedExamples
pub mod VerifyingLemmas
pub mod Counting
pub mod Deciding
pub mod Common
pub mod NameExamples
