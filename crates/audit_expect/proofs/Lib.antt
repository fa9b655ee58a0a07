pub mod First
pub mod Unasked
pub mod Stateless
pub mod Alike
pub mod HeardReadings
