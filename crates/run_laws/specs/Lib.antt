pub mod Bounds
pub mod Endings
pub mod Laws
