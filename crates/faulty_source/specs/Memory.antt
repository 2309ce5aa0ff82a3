-- How an input in memory fails and ends.
use Rattle.std.specs.Prelude.{◌≡◌, ◌⊎◌, ⊤, ℕ, ◌+◌, ◌-◌, ◌<◌, ◌≤◌, Bool, true, false, not, ◌&&◌, List, [], ◌∷◌, map, Option, Some, None, nat_le, nat_lt, if◌then◌else◌}
use Rattle.std.specs.List.{list_any}
use Rattle.faulty_source.specs.declared.bad_range.BadRange.{BadRange}
use Rattle.faulty_source.specs.declared.source.Got.{Got}
use Rattle.faulty_source.specs.Got.{count_of, is_end}

-- the greatest length of a name under which an input in memory opens, in bytes
abbrev pub name_limit : ℕ
name_limit = 4096

-- whether attempts at a bad range will still fail; without a number they fail forever
abbrev pub fails_still : Option ℕ → Bool
fails_still None = true
fails_still (Some n) = nat_lt 0 n

-- the range has the position x, and reads of it still fail
abbrev pub is_bad_at : ℕ → BadRange → Bool
is_bad_at x r = nat_le r.from x && nat_lt x r.to && fails_still r.attempts

-- a read of the position x fails
abbrev pub is_bad : List BadRange → ℕ → Bool
is_bad bad x = list_any (is_bad_at x) bad

-- the attempts that still fail after one more; without a number they fail forever
abbrev pub one_less : Option ℕ → Option ℕ
one_less None = None
one_less (Some n) = Some (n - 1)

-- the bad ranges after a read that failed at x: the range that it met has one attempt less
abbrev pub met : List BadRange → ℕ → List BadRange
met bad x = map (λ r. if is_bad_at x r then record r { attempts = one_less r.attempts } else r) bad

-- What a read of asked bytes at pos gives, of an input that ends here. A read that meets a bad position before the end
-- gives what comes before that. Any other gives all that there is, and meets the end if that is less than was asked
-- for.
pub record ReadGives (end : ℕ) (bad : List BadRange) (pos asked : ℕ) (got : Got) : Type 0 where
  pub few : count_of got ≤ asked
  pub good : (x : ℕ) → pos ≤ x → x < pos + count_of got → is_bad bad x ≡ false
  pub there : count_of got ≡ 0 ⊎ (pos + count_of got ≤ end)
  pub ended : is_end got ≡ true → (count_of got < asked) × (end ≤ pos + count_of got)
  pub failed : is_end got ≡ false → count_of got < asked
      → (pos + count_of got < end) × (is_bad bad (pos + count_of got) ≡ true)

-- the bad ranges after a read that gave this
abbrev pub bad_after : List BadRange → (pos asked : ℕ) → Got → List BadRange
bad_after bad pos asked got =
    if nat_lt (count_of got) asked && not (is_end got) then met bad (pos + count_of got) else bad

-- the ranges ascend from a position on, none is empty, and no two overlap
abbrev pub AreSeparate : ℕ → List BadRange → Type 0
AreSeparate low [] = ⊤
AreSeparate low (r ∷ rs) = (low ≤ r.from) × (r.from < r.to) × AreSeparate r.to rs
