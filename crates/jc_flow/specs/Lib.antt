pub mod Found
pub mod Progress
pub mod Fails
pub mod Infer
pub mod Scratch
pub mod Visit
