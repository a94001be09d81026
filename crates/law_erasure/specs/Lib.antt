pub mod Erasure
pub mod Worked
