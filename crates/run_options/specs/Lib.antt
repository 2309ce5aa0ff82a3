pub mod Limits
pub mod Passes
pub mod Settings
