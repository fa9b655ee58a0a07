pub mod Limits
pub mod Paces
pub mod Formats
pub mod Maps
