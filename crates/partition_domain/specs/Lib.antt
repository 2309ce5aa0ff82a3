pub mod Table
pub mod Chain
pub mod Part
pub mod DomainMap
pub mod Reads
pub mod Steps
pub mod Laws
