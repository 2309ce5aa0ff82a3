-- Other crates cite these.
pub mod PieceLemmas
pub mod OneReading
pub mod OneFault
pub mod MapOrFault
pub mod MapLemmas
pub mod ReadPrinted
-- These are the crate's own.
mod PrintedBytes
mod ReadNumbers
mod ReadLines
mod Appended
mod DigitLemmas
mod LastDigits
mod PartLemmas
mod TakenOff
