-- Other crates cite these.
pub mod AlikeLemmas
pub mod CopyingLemmas
pub mod StartLemmas
pub mod TopLemmas
pub mod TurnLemmas
pub mod TriedLemmas
mod PastLemmas
mod AskedLemmas
mod CountLemmas
mod GoingLemmas
mod PassingLemmas
mod SweepLemmas
