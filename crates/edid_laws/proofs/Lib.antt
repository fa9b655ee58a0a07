pub mod Tables
pub mod Plain
pub mod VideoBack
pub mod AudioBack
pub mod SpeakersBack
pub mod Weights
pub mod HdmiBack
pub mod Goes
pub mod Kept
pub mod Whole
pub mod Seats
pub mod Standing
pub mod Again
pub mod Sorting
pub mod Itself
pub mod Owned
mod OnLinks
