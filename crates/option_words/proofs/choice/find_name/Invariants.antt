-- The rows so far have no such row.
use Rattle.std.proofs.Common.{◌≡◌, drop}
use Rattle.option_words.specs.Rows.{first_row, has_name}
use Rattle.option_words.proofs.choice.find_name.Given as goal

abbrev pub invariant-loop-row : goal.invariant-loop-row
invariant-loop-row l = first_row (has_name l.name) 0 l.rows ≡ first_row (has_name l.name) l.row (drop l.row l.rows)
