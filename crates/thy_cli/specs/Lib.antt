pub mod Completing
pub mod Watching
