pub mod DramLemmas
pub mod DrawLemmas
pub mod JumpLemmas
pub mod LowestLemmas
pub mod MergedLemmas
