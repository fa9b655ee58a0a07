pub mod Named
pub mod Stays
