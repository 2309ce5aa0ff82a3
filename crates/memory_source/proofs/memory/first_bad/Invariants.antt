use Rattle.std.proofs.Common.{◌≡◌, ◌≤◌, ◌<◌, ℕ, true, false, take}
use Rattle.faulty_source.specs.Memory.{is_bad}
use Rattle.memory_source.proofs.memory.first_bad.Given as goal

abbrev pub invariant-loop-range : goal.invariant-loop-range
invariant-loop-range l = record {
  low : l.pos ≤ l.stop;
  high : l.stop ≤ l.end;
  good : (x : ℕ) → l.pos ≤ x → x < l.stop → is_bad (take l.range-index l.bad) x ≡ false;
  stops : l.stop < l.end → is_bad (take l.range-index l.bad) l.stop ≡ true;
}
