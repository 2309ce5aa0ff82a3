-- Other crates cite these.
pub mod CommandLemmas
pub mod OptionLemmas
pub mod SkipLemmas
-- These are the crate's own.
mod RowLemmas
