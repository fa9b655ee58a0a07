pub mod Kept
pub mod Met
