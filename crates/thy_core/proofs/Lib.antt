pub mod TurnLaws
pub mod CycleLaws
pub mod CalmLaws
pub mod TakenLaws
pub mod PowerLaws
pub mod ReadingLemmas
pub mod SnapshotLaws
mod RowLaws
