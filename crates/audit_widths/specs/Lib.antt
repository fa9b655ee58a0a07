pub mod Lows
pub mod Misfits
pub mod Spreads
