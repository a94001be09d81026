pub mod Set
pub mod Live
pub mod Liveness
pub mod Flow
pub mod Interference
