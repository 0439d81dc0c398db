mod DrivenLemmas
mod MemoryLemmas
mod StartingLemmas
