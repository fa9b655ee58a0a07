pub mod Rows
pub mod Hdmi
pub mod Video
pub mod Audio
pub mod Speakers
pub mod Timing
pub mod Canonical
