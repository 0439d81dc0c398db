pub mod Beside
pub mod Boots
pub mod Driven
pub mod Memory
pub mod Starting
