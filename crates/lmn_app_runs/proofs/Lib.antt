mod LabelsStay
pub mod Tables
mod GoodLevels
pub mod TraceLines
pub mod Stops
pub mod TraceRuns
mod SpelledParts
mod SpelledRules
mod RightWords
mod Printable
pub mod ExampleLines
