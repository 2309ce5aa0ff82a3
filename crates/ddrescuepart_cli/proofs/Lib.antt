mod WorkedLemmas
mod PromiseLemmas
mod CompleteLemmas
