pub mod Block
pub mod Cta
pub mod Whole
pub mod Ext
pub mod Hdmi
pub mod Audio
