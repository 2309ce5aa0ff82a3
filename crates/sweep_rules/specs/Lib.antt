pub mod Sweep
pub mod SweepLaws
pub mod SweepWork
pub mod SweepStops
pub mod SweepOpens
