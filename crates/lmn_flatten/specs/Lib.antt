pub mod Glossaries
pub mod Scopes
pub mod Built
pub mod Copies
pub mod Growing
pub mod Outside
pub mod NameLists
