pub mod Order
pub mod Least
pub mod LeastFound
pub mod First
pub mod Samples
