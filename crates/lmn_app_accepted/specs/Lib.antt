pub mod Rules
pub mod OneProcess
pub mod Loading
