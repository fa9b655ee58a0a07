pub mod EdgeLemmas
pub mod Fronts
pub mod ShownLemmas
pub mod CaptureLemmas
