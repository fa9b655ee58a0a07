pub mod Report
pub mod States
pub mod Kept
pub mod Groups
pub mod Sifted
pub mod Cuts
pub mod Check
