pub mod Adding
pub mod Tiles
