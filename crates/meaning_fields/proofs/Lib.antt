pub mod Products
pub mod Choices
