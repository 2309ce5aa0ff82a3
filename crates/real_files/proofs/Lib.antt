-- Other crates cite these.
pub mod PartLemmas
mod AheadLemmas
mod DirectLemmas
