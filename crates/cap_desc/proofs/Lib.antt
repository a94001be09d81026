pub mod Widths
pub mod MemberWidths
pub mod NibbleLemmas
pub mod Counting
pub mod TypesCounted
pub mod OneType
pub mod TypesThere
