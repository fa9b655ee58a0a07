pub mod Writes
pub mod KeptLemmas
pub mod Joins
