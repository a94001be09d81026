pub mod Known
pub mod Ways
pub mod Quiet
pub mod NextReached
