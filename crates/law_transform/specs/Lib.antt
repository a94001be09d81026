pub mod Bytes
pub mod Laid
pub mod AcceptedWorld
pub mod Counterparts
pub mod Beside
pub mod LikeEndings
