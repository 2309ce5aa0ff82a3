pub mod Record
pub mod Memory
pub mod MemoryState
