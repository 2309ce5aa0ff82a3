-- What is made so far are the marks up to there, and the blocks that came end there or in front of it.
use Rattle.map_algebra.proofs.MarkLemmas.{AreMarks}
use Rattle.map_algebra.proofs.create.marks.Given as goal

abbrev pub invariant-loop-number : goal.invariant-loop-number
invariant-loop-number l = AreMarks l.shape l.ascending l.number-index l.end l.marks.statuses
