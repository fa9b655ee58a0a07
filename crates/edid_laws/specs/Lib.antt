pub mod Rising
pub mod Named
pub mod Rows
pub mod Products
pub mod Itself
pub mod Links
