pub mod MachineParts
pub mod Turns
pub mod Calm
pub mod Cycles
pub mod Reading
pub mod Row
