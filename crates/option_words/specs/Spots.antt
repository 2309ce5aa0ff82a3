-- Where the value of an option begins among the words. For contracts and proofs: no promise uses it.
use Rattle.std.specs.Prelude.{ℕ, ◌≤◌, List, length, IfSome}
use Rattle.std.specs.Str.{IsCharBoundary}
use Rattle.option_words.specs.declared.reading.Item.{Item}
use Rattle.option_words.specs.declared.reading.Spot.{Spot}
use Rattle.option_words.specs.Words.{word}

-- a spot names a word, and a place in it at which a character begins or the word ends
pub record IsSpot (words : List (List ℕ)) (spot : Spot) : Type 0 where
  pub counted : 1 ≤ spot.word
  pub within : spot.word ≤ length words
  pub boundary : IsCharBoundary (word words spot.word) spot.from

-- the value of an item, if it has one, is in these words
abbrev pub HasSpot : List (List ℕ) → Item → Type 0
HasSpot words item = IfSome item.value (IsSpot words)
