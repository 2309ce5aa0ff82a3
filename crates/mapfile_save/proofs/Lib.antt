-- Other crates cite these.
pub mod CallLemmas
pub mod FillLemmas
pub mod StageLemmas
pub mod StopLemmas
pub mod NameLemmas
-- This is the crate's own.
mod SaveLemmas
