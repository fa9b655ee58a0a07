pub mod Smooth
