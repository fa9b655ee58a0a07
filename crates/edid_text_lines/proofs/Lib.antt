pub mod Fieldings
pub mod Hexes
pub mod OneWord
pub mod Words
