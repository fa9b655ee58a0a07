pub mod Scaled
pub mod Factor
