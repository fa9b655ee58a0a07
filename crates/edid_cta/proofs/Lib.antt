pub mod Growing
pub mod OneBlock
pub mod OneExt
pub mod OneTimings
pub mod WholeLemmas
pub mod FirstHdmi
pub mod Readdressing
pub mod Hearing
