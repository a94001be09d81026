pub mod OwnMethods
pub mod Elements
mod Headers
mod Handlers
mod Suited
mod Served
pub mod Passing
pub mod Written
