-- Other crates cite these.
pub mod CountLemmas
