pub mod Handing
pub mod LineLemmas
pub mod Marking
