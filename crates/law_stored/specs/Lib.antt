pub mod StoredIsRead
pub mod PackedIsInstalled
