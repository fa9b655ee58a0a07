pub mod Bounds
pub mod Stretches
pub mod Slots
pub mod Pieces
pub mod Wide
pub mod Frames
pub mod Rows
