pub mod Instants
pub mod Stretching
pub mod Refused
pub mod Words
pub mod Ordered
pub mod Telling
