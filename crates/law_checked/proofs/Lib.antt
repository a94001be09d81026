pub mod OneFolder
pub mod OneByOne
