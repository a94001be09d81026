pub mod EntryWidth
pub mod OwnMethods
