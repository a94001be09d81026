pub mod FrameWords
pub mod Calls
pub mod Stacked
pub mod Bounds
pub mod Worked
