pub mod Ends
pub mod Shared
pub mod Passes
pub mod Numbering
pub mod Unlaid
