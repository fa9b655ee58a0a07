pub mod Tables
pub mod Kinds
pub mod Reading
pub mod Bytes
