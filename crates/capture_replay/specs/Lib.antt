pub mod Counts
pub mod Drives
pub mod Replay
pub mod Sides
pub mod Wide
