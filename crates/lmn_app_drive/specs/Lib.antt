pub mod Written
pub mod Driving
pub mod Answers
pub mod Laws
pub mod Examples
pub mod Asking
pub mod AskingOn
