pub mod Sites
pub mod Own
pub mod Fewer
pub mod Flowing
pub mod Sound
pub mod Below
pub mod Quiet
pub mod OneRefusal
