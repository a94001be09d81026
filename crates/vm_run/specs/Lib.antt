pub mod Marked
pub mod Known
pub mod Turn
pub mod Leading
pub mod Verified
pub mod Sized
pub mod Starts
