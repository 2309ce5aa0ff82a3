-- What the definitions mean.
use Rattle.std.specs.Prelude.{ℕ, List}
use Rattle.option_words.specs.Grammar.{HasOneMeaning as HasOneMeaningBy}
use Rattle.ddrescueverify_words.specs.Command.{verify_grammar}

-- Words ask for one thing at most, are refused for one fault at most, and never both.
abbrev pub HasOneMeaning : List (List ℕ) → Type 0
HasOneMeaning words = HasOneMeaningBy verify_grammar words
