pub mod BaseParts
pub mod BlockParts
pub mod ExtParts
pub mod VideoCodes
