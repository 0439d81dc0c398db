pub mod CallLemmas
pub mod ChosenLemmas
pub mod KeptLemmas
pub mod OverLemmas
pub mod PickLemmas
