pub mod Row
pub mod Tiling
pub mod Push
