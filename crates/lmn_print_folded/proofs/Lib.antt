pub mod Places
pub mod OneFolded
pub mod Choosing
pub mod SomeFolded
pub mod Computing
pub mod Computed
pub mod Numbering
mod NumberedForms
pub mod FoldedLines
pub mod ExampleLines
