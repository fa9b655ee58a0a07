pub mod Kinds
pub mod Volume
pub mod Ways
pub mod Effect
pub mod Fresh
pub mod Effects
pub mod Keys
pub mod KeyWords
