mod AmongLemmas
pub mod LawLemmas
