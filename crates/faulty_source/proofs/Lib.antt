-- Other crates cite these.
pub mod Keeping
