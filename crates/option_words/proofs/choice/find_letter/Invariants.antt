-- The rows so far have no such row.
use Rattle.std.proofs.Common.{◌≡◌, drop}
use Rattle.option_words.specs.Rows.{first_row, has_letter}
use Rattle.option_words.proofs.choice.find_letter.Given as goal

abbrev pub invariant-loop-row : goal.invariant-loop-row
invariant-loop-row l = first_row (has_letter l.letter) 0 l.rows ≡ first_row (has_letter l.letter) l.row (drop l.row l.rows)
