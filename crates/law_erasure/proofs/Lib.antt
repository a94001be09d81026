pub mod Acts
pub mod Steps
pub mod Starts
pub mod Together
mod Applying
