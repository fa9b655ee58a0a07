pub mod Words
pub mod Meanings
pub mod Kept
