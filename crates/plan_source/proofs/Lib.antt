-- Other crates cite these.
pub mod AnswerLemmas
pub mod PrintingLemmas
pub mod ChainLemmas
