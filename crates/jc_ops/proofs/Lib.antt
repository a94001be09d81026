pub mod Rows
pub mod Members
pub mod Described
pub mod Soundness
pub mod Deciding
pub mod Entries
pub mod Going
