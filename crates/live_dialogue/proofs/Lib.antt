pub mod Coming
pub mod Putting
pub mod Answered
pub mod Whole
