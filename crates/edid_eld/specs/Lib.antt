pub mod Codes
pub mod Eld
pub mod Reading
pub mod Display
