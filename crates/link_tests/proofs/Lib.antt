pub mod Raised
pub mod Walked
