pub mod Formed
pub mod Text
