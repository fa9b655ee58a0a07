pub mod Slots
pub mod Placing
pub mod Ends
pub mod Widths
pub mod Heard
pub mod Frames
pub mod Counts
pub mod Verdict
