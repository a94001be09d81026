pub mod Way
pub mod Graph
pub mod Marks
pub mod Settled
pub mod Ranks
pub mod Helpers
pub mod Worked
