pub mod FirstLemmas
pub mod IndexLemmas
pub mod MapLemmas
pub mod LiveLemmas
pub mod ListingLaws
pub mod PlaceLemmas
pub mod MoveLemmas
pub mod StoreLemmas
