pub mod Turns
pub mod Items
pub mod Tables
pub mod Feeds
