pub mod Live
pub mod Owned
