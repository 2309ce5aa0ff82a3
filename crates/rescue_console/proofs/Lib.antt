-- Other crates cite these.
pub mod SpeakingLemmas
pub mod PutLemmas
