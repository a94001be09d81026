pub mod Added
pub mod Worlds
pub mod Typings
pub mod Checked
