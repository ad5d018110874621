pub mod RuleCodes
