pub mod Widths
pub mod Moves
pub mod Lead
pub mod Found
pub mod Reaches
