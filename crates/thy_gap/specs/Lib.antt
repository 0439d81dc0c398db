pub mod Failing
pub mod Laws
pub mod Levelled
pub mod Lines
pub mod Meaning
pub mod Moving
pub mod Seen
