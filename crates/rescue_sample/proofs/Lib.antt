-- Other crates cite these.
pub mod SampleLemmas
pub mod RunLemmas
