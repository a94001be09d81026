pub mod Shaped
pub mod Machine
pub mod Worked
