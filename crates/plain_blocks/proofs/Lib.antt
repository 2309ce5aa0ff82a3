-- Other crates cite these.
pub mod EditLemmas
pub mod LookupLemmas
pub mod PushLemmas
-- These are the crate's own.
mod TilingLemmas
mod ShiftLemmas
mod RowLemmas
