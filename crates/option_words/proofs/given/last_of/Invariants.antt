-- The last option of the letter after here, otherwise the last so far, is the last of all; its value is in the
-- words.
use Rattle.std.proofs.Common.{◌≡◌, map, drop, IfSome}
use Rattle.option_words.specs.Rows.{meaning_of_row}
use Rattle.option_words.specs.Spots.{HasSpot}
use Rattle.option_words.specs.Values.{last_of, later}
use Rattle.option_words.proofs.given.last_of.Given as goal

abbrev pub invariant-loop-item : goal.invariant-loop-item
invariant-loop-item l = record {
  last : last_of (map meaning_of_row l.table) l.letter l.items
      ≡ later (last_of (map meaning_of_row l.table) l.letter (drop l.item-index l.items)) l.last;
  spot : IfSome l.last (HasSpot l.words);
}
