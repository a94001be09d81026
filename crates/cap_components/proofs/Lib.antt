pub mod PartsLemmas
pub mod InterfaceSets
pub mod Saying
pub mod Infos
