-- What the definitions mean.
use Rattle.std.specs.Prelude.{◌≡◌, ℕ, true, false, List, ◌∷◌, ◌++◌, Some, None}
use Rattle.option_words.specs.declared.reading.Item.{Item}
use Rattle.option_words.specs.Values.{Meaning, is_given, is_of, last_of}

-- the option that counts is the last of its letter: the one after which no other is given
abbrev pub LastCounts : Type 0
LastCounts = (options : List Meaning) (letter : ℕ) (before after : List Item) (i : Item)
    → is_of options letter i ≡ true → is_given options letter after ≡ false
    → last_of options letter (before ++ i ∷ after) ≡ Some i

-- no option of a letter counts if none of that letter is given
abbrev pub NoneCounts : Type 0
NoneCounts = (options : List Meaning) (letter : ℕ) (items : List Item)
    → is_given options letter items ≡ false → last_of options letter items ≡ None
