pub mod Attempts
pub mod Nominal
pub mod Times
pub mod Verdicts
