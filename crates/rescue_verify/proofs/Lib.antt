mod LookLemmas
mod CompareLemmas
pub mod PieceLemmas
