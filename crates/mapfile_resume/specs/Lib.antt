pub mod Text
pub mod Resuming
pub mod Named
pub mod Laws
