pub mod Subject
pub mod Uses
pub mod Graph
pub mod Building
pub mod Variable
pub mod Allotting
pub mod Sharing
