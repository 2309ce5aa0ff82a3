pub mod Expected
pub mod Filling
