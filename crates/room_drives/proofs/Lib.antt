pub mod Driven
pub mod Bits
pub mod Begun
mod Lists
mod Sent
mod Slots
mod Seats
mod Acks
pub mod Pulses
pub mod Whole
