pub mod Interval
pub mod Number
pub mod Sectors
pub mod Size
pub mod Suffixed
