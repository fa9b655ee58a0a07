pub mod Counts
pub mod Turns
pub mod Running
pub mod HasDrives
pub mod Named
pub mod HasDump
pub mod RoundBounds
pub mod SameLines
