use Rattle.std.proofs.Common.{nat_lt, get_or}
use Rattle.memory_site.proofs.MarkLemmas.{SpoiltTo}
use Rattle.memory_site.proofs.memory.stop.spoil.Given as goal

abbrev pub invariant-loop-i : goal.invariant-loop-i
invariant-loop-i l = SpoiltTo (λ x. nat_lt 0 (get_or l.marks x 0)) l.i l.initial.bytes l.bytes
