pub mod Turning
pub mod Lending
pub mod Solids
pub mod Runs
pub mod Counting
pub mod Steps
pub mod Laws
pub mod Examples
