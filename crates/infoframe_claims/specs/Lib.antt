pub mod Bits
pub mod Claims
pub mod Features
pub mod Sounds
pub mod Stereo
pub mod Codes
pub mod Offers
pub mod Words
