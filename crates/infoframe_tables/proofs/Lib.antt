pub mod AreFrames
