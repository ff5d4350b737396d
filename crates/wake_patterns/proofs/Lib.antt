pub mod Vocabulary
pub mod CaseLemmas
pub mod PatternLemmas
pub mod PlanLemmas
pub mod StillLemmas
