pub mod RuleLists
pub mod Census
pub mod Counts
