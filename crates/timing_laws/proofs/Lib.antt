mod Lists
pub mod Slots
pub mod Nominal
pub mod Widths
pub mod Runs
pub mod Waits
pub mod Tries
pub mod Told
pub mod Blocks
pub mod Fine
