pub mod MethodFormat
pub mod MethodPart
pub mod StaticFormat
pub mod StaticPart
