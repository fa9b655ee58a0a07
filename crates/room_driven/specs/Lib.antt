pub mod Driven
pub mod Named
pub mod Emulate
