mod GeometryLemmas
pub mod BarrierLemmas
pub mod RunLemmas
pub mod CallLemmas
pub mod BootLemmas
pub mod LawfulLemmas
