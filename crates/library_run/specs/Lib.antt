pub mod Checking
pub mod Run
pub mod Watching
