pub mod Sums
pub mod Signs
pub mod Runs
pub mod Rates
pub mod Pieces
pub mod Steps
