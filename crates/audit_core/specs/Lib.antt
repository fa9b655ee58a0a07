pub mod Lines
pub mod Audit
pub mod Kept
pub mod Endings
pub mod Measured
