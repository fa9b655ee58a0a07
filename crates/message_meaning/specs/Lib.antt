pub mod Addresses
pub mod Sentences
pub mod Meaning
pub mod Named
pub mod FrameLine
pub mod Records
pub mod Laws
