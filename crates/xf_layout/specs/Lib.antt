pub mod Form
pub mod Shortest
pub mod Widening
pub mod Places
pub mod Plan
pub mod Settling
pub mod Laid
pub mod Laws
