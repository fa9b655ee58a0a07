pub mod Left
pub mod Told
pub mod Begun
pub mod Showing
pub mod Onward
pub mod Followed
pub mod Written
pub mod Long
