pub mod Parts
pub mod Alignment
pub mod Values
pub mod Records
pub mod Laws
