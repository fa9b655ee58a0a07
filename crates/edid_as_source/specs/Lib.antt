pub mod Count
pub mod Front
pub mod Extensions
pub mod Source
pub mod Notes
pub mod Mend
pub mod Laws
