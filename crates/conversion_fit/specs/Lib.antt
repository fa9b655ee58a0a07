pub mod Zeros
pub mod Sections
pub mod Blocks
pub mod Timings
pub mod Whole
pub mod Answers
pub mod Laws
