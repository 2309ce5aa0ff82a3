-- What stands in front of where it has come is the front, over and over.
use Rattle.task_sweeps.proofs.PatternLemmas.{IsFilledTo}
use Rattle.task_sweeps.proofs.pattern.repeat_front.Given as goal

abbrev pub invariant-loop-i : goal.invariant-loop-i
invariant-loop-i l = IsFilledTo l.initial.buffer l.buffer l.front l.i
