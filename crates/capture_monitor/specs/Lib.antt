pub mod ReadBy
pub mod Monitor
pub mod EdgeFile
pub mod EdgeText
pub mod Watch
pub mod Reading
