pub mod Sections
pub mod Cuts
pub mod Tables
pub mod Layouts
pub mod Frames
pub mod Names
