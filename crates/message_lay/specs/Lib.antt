pub mod Causes
pub mod Bits
pub mod Faults
pub mod Words
pub mod Line
pub mod Text
pub mod Laws
