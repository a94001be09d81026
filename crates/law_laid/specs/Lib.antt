pub mod Apart
pub mod Laid
pub mod Laws
