pub mod Lines
pub mod Pattern
pub mod Timing
pub mod Written
