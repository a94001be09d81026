pub mod Slots
pub mod Shape
pub mod Safely
