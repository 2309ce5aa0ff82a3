-- Other crates cite these.
pub mod ListedLemmas
pub mod ListingLemmas
pub mod MapLemmas
-- These are the crate's own.
mod AreaLemmas
mod ChangeLemmas
mod BlockLemmas
mod CreatedLemmas
mod MarkLemmas
mod NumberLemmas
