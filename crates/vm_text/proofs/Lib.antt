pub mod Arrays
pub mod Alike
pub mod Told
pub mod Words
