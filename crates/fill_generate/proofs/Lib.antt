-- Other crates cite these.
pub mod TellLemmas
-- These are the crate's own.
mod LoopLemmas
mod PieceLemmas
mod SearchLemmas
mod MarkLemmas
mod ImageLemmas
mod DraftLemmas
mod EndLemmas
mod EndPieceLemmas
mod OutcomeLemmas
mod PiecesLemmas
mod LookLemmas
