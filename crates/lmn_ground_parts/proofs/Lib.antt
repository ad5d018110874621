pub mod WalkLaws
pub mod AnswerLaws
pub mod Common
pub mod JoinViews
