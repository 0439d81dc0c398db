pub mod Copying
pub mod Entries
pub mod Scarce
