pub mod Changes
pub mod Written
pub mod Rewritten
pub mod Laying
pub mod RewrittenPackage
pub mod Writing
pub mod Naming
