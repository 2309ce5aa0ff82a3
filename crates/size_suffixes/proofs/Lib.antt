-- Other crates cite these.
pub mod Digits
-- These are the crate's own.
mod Saturate
