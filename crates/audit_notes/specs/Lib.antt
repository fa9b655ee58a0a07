pub mod Kinds
pub mod Notes
pub mod Readings
pub mod Lines
pub mod Folded
pub mod Hearing
