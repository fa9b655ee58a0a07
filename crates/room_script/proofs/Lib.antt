pub mod KeyLemmas
pub mod Reading
pub mod Rows
pub mod Begins
pub mod Adding
pub mod Sound
pub mod OneReading
pub mod KeyTexts
