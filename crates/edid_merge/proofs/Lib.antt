pub mod Answering
pub mod More
pub mod Zeros
pub mod Noting
