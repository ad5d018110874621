pub mod GuardLemmas
pub mod PlanLemmas
pub mod OrderLemmas
pub mod AcceptedLemmas
pub mod OrderedLemmas
pub mod StandingLemmas
pub mod WorkedGuards
pub mod ValueLemmas
