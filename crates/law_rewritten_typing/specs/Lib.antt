pub mod Whole
pub mod Typed
pub mod Laws
pub mod Planned
pub mod Edges
pub mod Premises
