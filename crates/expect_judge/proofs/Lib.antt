pub mod Often
pub mod Naming
pub mod Indexed
pub mod Expecting
pub mod Ordered
pub mod Judging
