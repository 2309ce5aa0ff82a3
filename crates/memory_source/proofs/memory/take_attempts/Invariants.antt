use Rattle.std.proofs.Common.{◌≡◌, ◌++◌, take, drop}
use Rattle.faulty_source.specs.Memory.{met}
use Rattle.memory_source.proofs.memory.take_attempts.Given as goal

abbrev pub invariant-loop-range : goal.invariant-loop-range
invariant-loop-range l = l.bad ≡ met (take l.range-index l.initial.bad) l.x ++ drop l.range-index l.initial.bad
