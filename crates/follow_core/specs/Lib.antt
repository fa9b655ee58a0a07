pub mod Lines
pub mod Passing
pub mod Teller
pub mod Shown
pub mod Follow
