pub mod Row
pub mod Resolve
pub mod Sound
pub mod Entry
pub mod Alike
pub mod Next
