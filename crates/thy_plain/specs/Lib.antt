pub mod Held
pub mod Machine
pub mod Start
pub mod Window
