pub mod Pieces
pub mod Looks
pub mod Verified
pub mod Across
pub mod Looking
pub mod Comparing
pub mod Laws
