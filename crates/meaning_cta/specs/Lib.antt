pub mod Audio
pub mod Speakers
pub mod Flags
pub mod Stereo
pub mod Hdmi
