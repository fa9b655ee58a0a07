pub mod Figures
pub mod Luminance
pub mod Fields
pub mod Places
