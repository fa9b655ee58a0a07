pub mod Frames
pub mod Heard
