pub mod Places
pub mod Series
pub mod Script
pub mod Order
pub mod Stretches
pub mod Sweep
pub mod Progress
