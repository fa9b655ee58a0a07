pub mod ReadBack
pub mod Sampled
pub mod LostLines
