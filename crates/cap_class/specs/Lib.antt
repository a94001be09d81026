pub mod ClassFormat
pub mod Lists
pub mod ClassPart
