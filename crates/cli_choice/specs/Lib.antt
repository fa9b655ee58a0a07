pub mod Joined
pub mod Micros
pub mod Form
