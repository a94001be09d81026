pub mod Last
pub mod Fits
