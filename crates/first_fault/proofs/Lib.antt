pub mod Places
pub mod LeastFaults
pub mod LeastFound
pub mod FirstTold
pub mod AnyOrder
