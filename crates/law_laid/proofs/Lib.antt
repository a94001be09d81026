pub mod SameBut
pub mod Renaming
pub mod Operations
pub mod Forms
pub mod Steps
pub mod LaidTyping
pub mod Catching
pub mod Methods
