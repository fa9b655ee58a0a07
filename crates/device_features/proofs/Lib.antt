pub mod KeyWordLemmas
pub mod MessageLemmas
