pub mod QuotedLemmas
pub mod NameLemmas
pub mod Common
pub mod NameTexts
pub mod NameOrder
pub mod NumberLemmas
pub mod LineLemmas
pub mod LinesCommon
