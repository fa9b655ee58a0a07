pub mod Texts
pub mod ReadBack
pub mod Sampled
