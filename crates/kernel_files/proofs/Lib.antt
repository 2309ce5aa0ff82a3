pub mod Volumes
pub mod Steps
mod Logs
