pub mod Told
pub mod Seen
pub mod Named
pub mod Index
pub mod Judged
pub mod Laws
