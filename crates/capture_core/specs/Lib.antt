pub mod Edges
pub mod Track
pub mod Samples
pub mod Seconds
pub mod Reading
pub mod Texts
pub mod Recording
pub mod Onward
