pub mod IndexFormat
pub mod Component
pub mod Indexes
pub mod Taking
pub mod WorldIndexes
pub mod TargetIndex
pub mod Marking
