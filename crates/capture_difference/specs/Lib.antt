pub mod Aligned
pub mod Laws
pub mod Lines
pub mod Rows
pub mod Written
