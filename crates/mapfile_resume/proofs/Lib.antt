-- Other crates cite these.
pub mod AnswerLemmas
pub mod NamedLemmas
-- These are the crate's own.
mod LoadLemmas
mod BarrierLemmas
mod ResumeLemmas
mod ReadLemmas
