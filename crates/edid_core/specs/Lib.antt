pub mod Address
pub mod Bytes
pub mod Passing
pub mod Root
