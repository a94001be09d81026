pub mod Sets
pub mod Carrying
pub mod Beginning
pub mod Oks
pub mod Flows
pub mod Putting
