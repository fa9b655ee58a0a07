pub mod Lists
pub mod Verdicts
pub mod Texts
