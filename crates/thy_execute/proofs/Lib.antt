pub mod PlanLemmas
pub mod LevellingLemmas
pub mod PlainLemmas
