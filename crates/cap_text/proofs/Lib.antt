pub mod Numerals
pub mod Arguments
pub mod Folders
pub mod Entries
pub mod Ends
pub mod Requests
pub mod Rooms
