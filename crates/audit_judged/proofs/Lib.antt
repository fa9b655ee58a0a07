pub mod Saying
pub mod Lawful
