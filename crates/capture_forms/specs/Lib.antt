pub mod Forms
pub mod Captures
pub mod Format
