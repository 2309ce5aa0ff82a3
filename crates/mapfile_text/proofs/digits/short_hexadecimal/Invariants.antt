use Rattle.std.proofs.Common.{◌≡◌, ◌-◌, ◌≤◌, [], ◌∷◌, take, drop, length}
use Rattle.mapfile_text.proofs.LastDigits.{last_digits}
use Rattle.mapfile_text.proofs.digits.short_hexadecimal.Given as goal

-- the last digits of the rest belong before those that were written, after the `0x`
abbrev pub invariant-loop-i : goal.invariant-loop-i
invariant-loop-i l = record {
  from : 2 ≤ l.i;
  within : l.i ≤ 10;
  len : length l.out ≡ 10;
  mark : take 2 l.out ≡ 48 ∷ 120 ∷ [];
  digits_are : last_digits (l.i - 2) l.rest (drop l.i l.out) ≡ last_digits 8 l.n [];
}

abbrev pub decreases-loop-i : goal.decreases-loop-i
decreases-loop-i l = l.i
