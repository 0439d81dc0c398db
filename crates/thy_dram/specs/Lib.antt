pub mod Contents
pub mod Draws
pub mod Jumps
pub mod Parts
pub mod Held
pub mod Lowest
pub mod Merged
