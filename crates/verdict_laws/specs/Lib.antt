pub mod Sent
pub mod Frames
pub mod Verdicts
