use Rattle.std.proofs.Common.{◌≡◌, ◌≤◌, take, drop, replicate, length, true}
use Rattle.std.specs.Fmt.{digits, digits_onto}
use Rattle.mapfile_text.proofs.digits.write_digits.Given as goal

-- the digits of the rest belong in front of those that were written, and in front of these there are zeros still
abbrev pub invariant-loop-i : goal.invariant-loop-i
invariant-loop-i l = record {
  within : l.i ≤ 64;
  len : length l.out ≡ 64;
  zeros : take l.i l.out ≡ replicate l.i 48;
  digits_are : digits_onto l.i l.base true l.rest (drop l.i l.out) ≡ digits l.base true l.n;
}

abbrev pub decreases-loop-i : goal.decreases-loop-i
decreases-loop-i l = l.i
