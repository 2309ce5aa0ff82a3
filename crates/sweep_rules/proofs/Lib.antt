-- Other crates cite these.
pub mod SweepLemmas
pub mod EndLemmas
pub mod GenerateLemmas
pub mod FillLemmas
pub mod EarlyLemmas
-- These are the crate's own.
mod SavedLemmas
