-- How counts go on when positions are marked, and when the input is found to end.
-- For contracts and proofs: no promise uses it.
use Rattle.std.specs.Prelude.{◌≡◌, ℕ, zero, suc, ◌+◌, ◌-◌, Bool, false, not, ◌||◌, nat_lt, count_by, if◌then◌else◌}
use Rattle.std.specs.List.{range_with_len}
use Rattle.block_list.specs.declared.areas.Count.{Count}
use Rattle.block_list.specs.Areas.{begins_area}
use Rattle.rescue_rules.specs.declared.report.Counts.{Counts}

-- how many positions of a set lie from one position up to another
abbrev pub count_within : (set : ℕ → Bool) → (from to : ℕ) → ℕ
count_within set from to = count_by set (range_with_len from (to - from))

-- the position right before one is in a set
abbrev pub is_in_front : (set : ℕ → Bool) → ℕ → Bool
is_in_front set zero = false
is_in_front set (suc x) = set x

-- Positions from p up to q weren't in a set, and after a change those from k up to q are. One more area begins, unless
-- it continues one before them; and one that began right after them doesn't begin there any more.
pub record ComesIn (set : ℕ → Bool) (p k q : ℕ) (old new : Count) : Type 0 where
  pub bytes : new.bytes ≡ old.bytes + (q - k)
  pub areas : new.areas + (if set q then 1 else 0)
      ≡ old.areas + (if nat_lt p k || not (is_in_front set p) then 1 else 0)

-- Positions from p up to q were in a set, and after a change those from p up to k aren't. An area that began there
-- doesn't begin any more; and one begins after them, if there are more of the set.
pub record GoesOut (set : ℕ → Bool) (p k q : ℕ) (old new : Count) : Type 0 where
  pub bytes : new.bytes + (k - p) ≡ old.bytes
  pub areas : new.areas + (if not (is_in_front set p) then 1 else 0)
      ≡ old.areas + (if nat_lt k q || set q then 1 else 0)

-- All that lies at an end or past it goes out of the two sets that are counted.
pub record EndsAt (end top : ℕ) (finished failed : ℕ → Bool) (old new : Counts) : Type 0 where
  pub rescued : new.rescued + count_within finished end top ≡ old.rescued
  pub bytes : new.failed.bytes + count_within failed end top ≡ old.failed.bytes
  pub areas : new.failed.areas + count_within (begins_area failed) end top ≡ old.failed.areas
