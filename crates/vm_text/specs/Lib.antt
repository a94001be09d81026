pub mod Left
pub mod Lent
pub mod Text
pub mod LikeTexts
pub mod Worked
