pub mod Running
pub mod Sampled
