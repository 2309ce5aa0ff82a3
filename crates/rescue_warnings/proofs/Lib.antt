pub mod DueLemmas
pub mod PutLemmas
