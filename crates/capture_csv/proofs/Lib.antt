pub mod Sampled
pub mod ReadBack
pub mod Columns
