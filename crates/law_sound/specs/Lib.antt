pub mod Frames
pub mod State
pub mod Soundness
pub mod Handed
pub mod Worked
