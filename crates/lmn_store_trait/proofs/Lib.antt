pub mod Numbers
pub mod Climbs
pub mod NextAwake
pub mod AwakeExamples
