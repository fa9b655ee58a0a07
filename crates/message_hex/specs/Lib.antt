pub mod Bytes
pub mod Kept
pub mod Spelling
pub mod Remark
pub mod Lines
