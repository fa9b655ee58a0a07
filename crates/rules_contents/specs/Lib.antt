pub mod Extensions
pub mod Contents
pub mod Bases
