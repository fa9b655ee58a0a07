pub mod Pin
pub mod Sampling
pub mod Text
pub mod Lost
