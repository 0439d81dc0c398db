pub mod Starts
pub mod Waiting
pub mod WaitingScheme
