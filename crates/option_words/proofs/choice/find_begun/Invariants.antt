-- The rows so far have no such row.
use Rattle.std.proofs.Common.{◌≡◌, drop}
use Rattle.option_words.specs.Rows.{first_row, begins_with}
use Rattle.option_words.proofs.choice.find_begun.Given as goal

abbrev pub invariant-loop-row : goal.invariant-loop-row
invariant-loop-row l = first_row (begins_with l.front) 0 l.rows ≡ first_row (begins_with l.front) l.row (drop l.row l.rows)
