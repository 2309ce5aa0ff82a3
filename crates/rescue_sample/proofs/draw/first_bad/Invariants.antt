use Rattle.std.proofs.Common.{◌≡◌, ◌≤◌, ◌<◌, ℕ, true, false, take}
use Rattle.rescue_sample.specs.Sample.{is_in_one}
use Rattle.rescue_sample.proofs.draw.first_bad.Given as goal

-- what was found in the sectors so far
abbrev pub invariant-loop-sector : goal.invariant-loop-sector
invariant-loop-sector l = record {
  low : l.pos ≤ l.stop;
  high : l.stop ≤ l.end;
  good : (x : ℕ) → l.pos ≤ x → x < l.stop → is_in_one (take l.sector-index l.sectors) x ≡ false;
  stops : l.stop < l.end → is_in_one (take l.sector-index l.sectors) l.stop ≡ true;
}
