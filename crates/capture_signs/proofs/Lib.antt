mod Summing
mod Bounding
mod Running
mod Piecing
pub mod Lawful
