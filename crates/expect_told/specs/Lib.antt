pub mod Shown
pub mod Said
pub mod Senders
pub mod Turns
