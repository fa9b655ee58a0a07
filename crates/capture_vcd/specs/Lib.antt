pub mod Scale
pub mod Dump
pub mod Wire
pub mod Text
