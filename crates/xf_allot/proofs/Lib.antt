pub mod Using
pub mod Flowing
pub mod Adding
pub mod Placing
pub mod Variables
pub mod Subjects
pub mod Sharings
