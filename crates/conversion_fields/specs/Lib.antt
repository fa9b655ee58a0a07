pub mod Said
pub mod Objects
pub mod Parts
pub mod Blocks
pub mod Whole
