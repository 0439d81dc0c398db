pub mod Counts
pub mod Rack
pub mod Replacing
pub mod Spring
pub mod Tape
pub mod Unknown
pub mod Written
