pub mod RestoringLaws
pub mod SavingLemmas
pub mod BeginningLemmas
