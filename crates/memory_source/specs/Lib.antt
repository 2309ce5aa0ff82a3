pub mod MemoryState
