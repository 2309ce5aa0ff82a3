pub mod BadRanges
pub mod Texts
