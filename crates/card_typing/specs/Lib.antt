pub mod Place
pub mod Typing
pub mod Met
pub mod Refusal
pub mod Pass
pub mod Laws
