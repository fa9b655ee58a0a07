pub mod Commands
pub mod EdgeText
pub mod Stops
