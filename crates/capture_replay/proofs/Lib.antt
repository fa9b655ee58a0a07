pub mod Going
pub mod Playing
