pub mod ComparingLaws
pub mod NextLaws
pub mod ComparisonLaws
pub mod NameLemmas
