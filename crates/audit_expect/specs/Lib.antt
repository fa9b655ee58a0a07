pub mod Lines
pub mod Wanted
pub mod Faults
pub mod Marks
pub mod Heard
pub mod Check
pub mod Alike
