pub mod Captures
pub mod Compared
pub mod Edges
pub mod Following
pub mod Summaries
