pub mod Header
pub mod Widths
pub mod Endings
