-- Other crates cite these.
pub mod LineLemmas
-- These are the crate's own.
mod DigitsRead
mod EntryLemmas
mod FieldLemmas
mod FirstLine
mod Progress
mod ShapeLemmas
