pub mod Typed
mod Unlike
mod Refusing
mod ZeroRefused
mod CopyRefused
mod ReloadRefused
pub mod SoFar
