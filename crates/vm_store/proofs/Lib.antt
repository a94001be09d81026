pub mod Stacks
mod Frames
mod Tops
pub mod Heaps
pub mod Handles
pub mod Rooms
pub mod Fills
pub mod Instances
pub mod SeenClasses
mod TaggedHeaps
pub mod CellTypes
pub mod TypedHeaps
pub mod NewObjects
pub mod Erasing
