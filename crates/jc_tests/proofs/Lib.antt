pub mod OneMethod
pub mod TwoPackages
