pub mod Inverted
