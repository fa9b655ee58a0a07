pub mod Hints
pub mod Places
