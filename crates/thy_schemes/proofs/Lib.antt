pub mod ThynvmActLemmas
pub mod ThynvmActsLemmas
pub mod ThynvmBlockLemmas
mod JournalBlockLemmas
mod ShadowFillLemmas
mod ShadowBlockLemmas
mod ShadowActLemmas
