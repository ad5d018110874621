pub mod Held
pub mod Lending
pub mod Turning
pub mod Counting
pub mod Sleeping
