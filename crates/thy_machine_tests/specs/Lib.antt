pub mod Least
pub mod LogParts
pub mod PoolParts
pub mod Powered
pub mod Calls
