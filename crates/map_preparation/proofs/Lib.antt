-- Other crates cite these.
pub mod PrepareLemmas
-- This is the crate's own.
mod RoomLemmas
