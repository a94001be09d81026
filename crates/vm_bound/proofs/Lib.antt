pub mod Dispatching
pub mod Graphing
pub mod Told
pub mod Answering
mod Subclassing
mod Targeting
mod Numbering
mod Placing
mod Serving
mod Covering
mod Stacks
mod Ending
mod Sweeping
mod Names
mod Innermost
