pub mod Edids
pub mod Fate
pub mod Frames
pub mod Heard
pub mod Readings
pub mod Receiver
pub mod Sender
