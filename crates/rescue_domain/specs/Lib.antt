pub mod Finished
pub mod Domain
pub mod Parts
pub mod Live
pub mod Testing
pub mod Places
pub mod Stretch
pub mod Search
