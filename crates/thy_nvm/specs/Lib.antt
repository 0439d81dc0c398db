pub mod Calls
pub mod Kept
pub mod DeviceInMemory
pub mod Chosen
pub mod Pick
pub mod Overlaid
