pub mod Drives
pub mod Stretches
