pub mod Room
pub mod Records
pub mod Laws
