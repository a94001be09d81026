pub mod Held
pub mod Laws
pub mod Moves
pub mod Premises
pub mod Edges
pub mod Stores
pub mod Worked
