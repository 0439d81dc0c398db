pub mod ChoiceLemmas
pub mod ImageLemmas
pub mod LeadLemmas
pub mod RepeatLemmas
pub mod BootLemmas
pub mod CopyLemmas
pub mod TriedLemmas
pub mod RoomLemmas
