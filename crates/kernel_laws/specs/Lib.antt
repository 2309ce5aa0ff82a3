pub mod Refines
pub mod Calls
pub mod Laws
pub mod Loses
pub mod Asked
pub mod Deeds
pub mod Site
