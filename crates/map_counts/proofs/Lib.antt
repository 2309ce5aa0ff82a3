-- Other crates cite these.
pub mod CountLemmas
pub mod SummaryLemmas
-- This is the crate's own.
mod WalkLemmas
