-- Other crates cite these.
pub mod PlaceLemmas
pub mod SizeLemmas
pub mod TestingLemmas
-- These are the crate's own.
mod FinishedLemmas
mod MadeLemmas
mod PartsLemmas
mod SearchLemmas
mod StretchLemmas
