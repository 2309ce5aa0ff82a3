-- The words so far are read.
use Rattle.option_words.proofs.ReadLemmas.{Read}
use Rattle.option_words.proofs.reader.read_by_rows.Given as goal

abbrev pub invariant-loop-i : goal.invariant-loop-i
invariant-loop-i l = Read l.rows l.words l.i l.reader
