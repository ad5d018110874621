pub mod Lines
pub mod NewStores
pub mod Texts
pub mod Ends
pub mod Goings
pub mod Answered
pub mod Writings
pub mod Answering
pub mod ExampleTexts
pub mod OneText
mod Asked
pub mod ExampleRuns
