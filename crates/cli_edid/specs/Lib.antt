pub mod Rows
pub mod EdidFlags
