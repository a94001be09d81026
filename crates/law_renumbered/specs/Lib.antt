pub mod Instruction
pub mod Symbols
pub mod Numbers
pub mod Laws
