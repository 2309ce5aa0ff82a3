pub mod Tally
pub mod Splice
pub mod Rows
pub mod Search
pub mod PageEntries
