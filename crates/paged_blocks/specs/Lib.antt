pub mod EntryList
pub mod Walks
pub mod Paging
pub mod Marks
pub mod TouchedPages
pub mod Room
pub mod PageTree
pub mod Forms
