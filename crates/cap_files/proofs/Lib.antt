pub mod Buffer
pub mod Pieces
pub mod Keys
pub mod Transfers
pub mod Outputs
pub mod Ranges
