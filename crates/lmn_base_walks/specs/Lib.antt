pub mod RuleCodes
pub mod LinkCodes
