pub mod Parts
pub mod WordLemmas
pub mod VideoLemmas
pub mod AudioLemmas
