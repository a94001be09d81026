mod Windows
mod Rams
mod WordHeaps
mod ObjectWords
mod Erased
mod Jumping
mod WordsFollow
pub mod Accepting
mod Beginning
mod Reached
mod Following
mod Ran
mod Moved
pub mod Living
