pub mod Modes
pub mod SweepState
pub mod Sweeping
pub mod Steps
pub mod Marking
