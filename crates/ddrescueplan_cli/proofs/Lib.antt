mod WorkedLemmas
mod PromiseLemmas
