mod Placing
pub mod Standing
mod Rising
mod Context
pub mod Following
mod Renaming
mod Called
pub mod Plain
mod Kept
mod Moving
mod Leading
mod Arriving
mod Entering
mod OneGroup
mod Going
mod Returning
mod Handling
mod Starting
mod Catching
mod KeptOperations
mod Reading
mod Groups
mod Turning
pub mod BareForks
mod ForkSteps
pub mod Branching
mod Taking
mod Choosing
pub mod Storing
mod Cutting
mod Deepening
mod Counting
pub mod This
pub mod ThisReads
pub mod ThisFields
mod Running
pub mod FieldCells
pub mod ThisWrites
pub mod ThisWritesAnywhere
pub mod Sounding
mod Matching
