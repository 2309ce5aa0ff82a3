pub mod SearchLemmas
pub mod HalvingLemmas
pub mod RangeLemmas
pub mod RowLemmas
pub mod CountLemmas
mod PageLemmas
mod SpliceLemmas
mod TallyLemmas
