pub mod Joining
pub mod Taking
pub mod Histories
pub mod OneHartLaws
pub mod Rewording
pub mod HartLines
