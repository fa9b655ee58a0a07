pub mod Each
pub mod Going
