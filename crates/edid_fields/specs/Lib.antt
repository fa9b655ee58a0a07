pub mod Forms
pub mod Fields
pub mod Tiling
pub mod Values
pub mod Words
