pub mod Quiet
pub mod Noting
pub mod Left
