pub mod Elements
pub mod Laying
pub mod Registers
pub mod Own
pub mod Numbered
pub mod Fewer
pub mod Carded
