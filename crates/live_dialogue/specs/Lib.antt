pub mod Dialogue
