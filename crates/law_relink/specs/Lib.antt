pub mod Last
pub mod NamesAgain
pub mod Replaced
pub mod WorldAgain
