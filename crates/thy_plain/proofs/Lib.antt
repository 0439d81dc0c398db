pub mod HeldLaws
pub mod RunLaws
pub mod StartLaws
pub mod StepLemmas
pub mod WindowLemmas
