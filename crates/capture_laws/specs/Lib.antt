pub mod Capture
pub mod Formats
pub mod Waves
pub mod WireDumps
pub mod NextEdges
pub mod Rounds
pub mod Dumps
pub mod Names
