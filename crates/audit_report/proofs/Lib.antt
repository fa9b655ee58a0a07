pub mod Going
pub mod Measuring
pub mod Six
pub mod Rows
pub mod Answers
pub mod Remarks
