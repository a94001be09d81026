pub mod Called
pub mod Keeping
pub mod Stacking
pub mod Bounding
