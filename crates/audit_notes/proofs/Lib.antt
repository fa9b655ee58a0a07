pub mod Groups
pub mod Passed
pub mod ByKind
