-- What the definitions mean.
use Rattle.std.specs.Prelude.{◌≢◌, ℕ, List}
use Rattle.option_words.specs.declared.fault.UsageFault.TheVariants.{Modes}
use Rattle.option_words.specs.Grammar.{HasOneMeaning as HasOneMeaningBy}
use Rattle.ddrescuelog_words.specs.Command.{AreRefused, log_grammar}

-- Words ask for one thing at most, are refused for one fault at most, and never both.
abbrev pub HasOneMeaning : List (List ℕ) → Type 0
HasOneMeaning words = HasOneMeaningBy log_grammar words

-- Words with one mode are never refused for their modes.
abbrev pub OneModeIsWanted : Type 0
OneModeIsWanted = (words : List (List ℕ)) (n : ℕ) → AreRefused words (Modes n) → n ≢ 1
