pub mod PoolFormat
pub mod ExportFormat
pub mod LocationFormat
pub mod Pool
pub mod PoolReference
pub mod Export
pub mod Locations
pub mod Samples
