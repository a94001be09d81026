pub mod Beside
pub mod Elements
pub mod Fitting
pub mod Refused
