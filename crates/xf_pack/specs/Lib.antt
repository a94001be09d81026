pub mod Limits
pub mod Ends
pub mod Transformed
pub mod Passes
pub mod Untyped
pub mod Unlaid
