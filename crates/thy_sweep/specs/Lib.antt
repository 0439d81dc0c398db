pub mod Choices
pub mod Images
pub mod Leads
pub mod Lying
pub mod Repeats
pub mod Sums
pub mod Trials
pub mod Rooms
