-- Other crates cite these.
pub mod BoundLemmas
pub mod CursorLemmas
pub mod EndingLemmas
pub mod FailLemmas
pub mod OrderLemmas
pub mod OwedLemmas
pub mod RunLemmas
pub mod OnceLemmas
