pub mod AreSections
pub mod AreBlocks
pub mod AreFrames
