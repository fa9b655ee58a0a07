pub mod Blocks
pub mod Learning
pub mod Lengths
pub mod Rows
