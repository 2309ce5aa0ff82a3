-- Other crates cite these.
pub mod KeepLemmas
pub mod LastLemmas
pub mod LawLemmas
pub mod MeaningLemmas
pub mod MeantLemmas
pub mod MemoryLemmas
pub mod OperandLemmas
pub mod QuietLemmas
pub mod ResultLemmas
pub mod RowLemmas
pub mod TurnLemmas
pub mod ValueLemmas
-- These are the crate's own.
mod ReadLemmas
mod SpotLemmas
mod TableLemmas
mod TakeLemmas
