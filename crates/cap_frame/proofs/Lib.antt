pub mod Customs
mod Standing
