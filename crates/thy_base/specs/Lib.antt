pub mod Config
pub mod Options
pub mod Rows
pub mod Numbers
pub mod Fields
pub mod CommandLine
pub mod Settings
pub mod Refused
