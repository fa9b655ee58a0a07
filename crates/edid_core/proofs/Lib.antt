pub mod BaseLemmas
pub mod Lengths
pub mod OneEdid
pub mod Passed
pub mod Reading
