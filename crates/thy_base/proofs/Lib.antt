pub mod ConfigLemmas
pub mod FieldLemmas
pub mod Folding
pub mod InRange
pub mod Naming
pub mod Needing
