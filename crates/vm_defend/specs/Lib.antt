pub mod Held
pub mod Begun
pub mod Reading
pub mod Safe
