mod Objects
mod Tested
mod Reaching
mod Finding
mod Rooming
pub mod Sufficing
mod Staying
mod Shaping
mod Settling
mod Calling
