pub mod Places
pub mod TileLemmas
pub mod ApartLemmas
pub mod StretchLemmas
pub mod HeldLemmas
pub mod TypeLemmas
pub mod AreaLemmas
