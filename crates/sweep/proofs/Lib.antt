pub mod SweepLemmas
pub mod RowLemmas
pub mod SameLemmas
pub mod KeptLemmas
pub mod SweptLemmas
pub mod AskedLemmas
