pub mod Counts
pub mod OwnInfo
pub mod NewCode
pub mod ExactIndexes
