pub mod Ahead
pub mod Direct
pub mod Medium
