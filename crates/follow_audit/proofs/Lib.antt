pub mod Known
pub mod Audited
pub mod Followed
pub mod Written
