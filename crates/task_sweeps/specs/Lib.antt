pub mod Pattern
pub mod Modes
pub mod SweepSteps
