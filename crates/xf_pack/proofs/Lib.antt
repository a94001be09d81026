mod Elements
mod Filled
mod Sound
mod Passing
mod Coded
mod Written
