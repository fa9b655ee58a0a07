pub mod Strings
pub mod Cells
pub mod Values
pub mod Records
pub mod ReadBack
