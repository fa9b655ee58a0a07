pub mod Parted
pub mod Plain
pub mod PlainReading
pub mod Read
pub mod Source
