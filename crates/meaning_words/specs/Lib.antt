pub mod Notes
pub mod Rates
pub mod Timings
pub mod Formats
pub mod Videos
