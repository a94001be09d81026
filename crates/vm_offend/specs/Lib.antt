pub mod Words
pub mod WordStore
pub mod Typed
pub mod Sized
pub mod Held
pub mod Begun
pub mod Reads
