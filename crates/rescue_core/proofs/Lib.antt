-- Other crates cite these.
pub mod ChangeLemmas
pub mod ClosingLemmas
pub mod CountsLemmas
pub mod ObjectLemmas
pub mod PassLemmas
pub mod StageLemmas
pub mod TurnEndLemmas
-- These are the crate's own.
mod BeginLemmas
mod KeeperLemmas
mod LineLemmas
mod ProgressLemmas
mod RequestLemmas
mod RunningLemmas
mod SaveLemmas
mod TurnCallLemmas
mod TurnLemmas
mod TurnMarkLemmas
mod TurnedLemmas
mod WantedLemmas
