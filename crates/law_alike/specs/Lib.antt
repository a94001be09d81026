pub mod Alike
pub mod Running
pub mod Likeness
pub mod Starting
pub mod Ends
pub mod Simulation
pub mod Worked
