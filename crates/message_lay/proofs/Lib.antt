pub mod Laid
pub mod OneReading
pub mod Reading
pub mod Checking
pub mod Bounded
pub mod Sent
pub mod Records
