pub mod Settled
pub mod Listener
pub mod Follow
