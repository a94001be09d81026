pub mod Next
pub mod Tallying
pub mod BitLaws
