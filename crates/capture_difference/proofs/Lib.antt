pub mod Adding
pub mod Differing
pub mod Laying
pub mod Meeting
pub mod Writing
