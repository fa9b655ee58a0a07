pub mod NearestLemmas
pub mod Joins
