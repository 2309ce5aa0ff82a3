mod OptionLemmas
mod CommandLemmas
