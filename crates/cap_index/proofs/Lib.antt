pub mod Listing
pub mod Taken
pub mod Custom
pub mod Listed
pub mod Flagging
pub mod Entries
pub mod ReadBack
