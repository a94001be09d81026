pub mod Leading
pub mod Marking
pub mod Sums
pub mod Cycling
pub mod Ranking
pub mod Helping
pub mod Repeating
