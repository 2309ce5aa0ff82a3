-- The rows so far fit.
use Rattle.std.proofs.Common.{◌≡◌, drop}
use Rattle.option_words.specs.Tables.{is_table}
use Rattle.option_words.proofs.table.is_well_formed.Given as goal

abbrev pub invariant-loop-i : goal.invariant-loop-i
invariant-loop-i l = is_table l.rows ≡ is_table (drop l.i l.rows)
