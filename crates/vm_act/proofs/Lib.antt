pub mod Copies
pub mod Climbing
pub mod Asked
pub mod Takes
mod Codes
