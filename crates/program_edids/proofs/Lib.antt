pub mod ShownLemmas
pub mod EdidLemmas
pub mod SoundLemmas
pub mod FaultLemmas
pub mod ComparedLemmas
pub mod FramedLemmas
