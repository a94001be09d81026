pub mod Search
pub mod Running
pub mod Erased
pub mod Lasting
pub mod Ended
