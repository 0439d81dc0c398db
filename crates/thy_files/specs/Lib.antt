pub mod Restoring
pub mod Beginnings
