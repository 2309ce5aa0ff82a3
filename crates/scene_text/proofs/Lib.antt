mod BadRangesLemmas
pub mod TextLemmas
