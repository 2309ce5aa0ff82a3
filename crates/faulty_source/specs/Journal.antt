-- The reads of an input, and how much of each is kept.
use Rattle.std.specs.Prelude.{◌≡◌, ℕ, ◌+◌, ◌-◌, ◌*◌, ◌/◌, Bool, List, length, slice_range, nat_eq, nat_le, nat_lt, ◌&&◌, ◌||◌, not, if◌then◌else◌}

-- one read that was answered: its place, how many bytes it asked for, the bytes given, and whether the input then ended
pub record Reading : Type 0 where
  pub pos : ℕ
  pub asked : ℕ
  pub given : List ℕ
  pub ended : Bool

-- a read gave the input's own bytes
abbrev pub IsFrom : (bytes : List ℕ) → Reading → Type 0
IsFrom bytes r = r.given ≡ slice_range bytes r.pos (r.pos + length r.given)

-- the read gave all that it was asked for
abbrev pub is_whole : Reading → Bool
is_whole r = nat_eq (length r.given) r.asked

-- x rounded down to a multiple of b
abbrev pub floor : ℕ → ℕ → ℕ
floor b x = x / b * b

-- the read failed: it gave fewer bytes than it was asked for, and met no end
abbrev pub is_failed : Reading → Bool
is_failed r = not (is_whole r || r.ended)

-- how many bytes of a read are kept: all if it is whole or met the end, else those up to the last sector boundary in it
abbrev pub kept : ℕ → Reading → ℕ
kept sector r =
    if is_whole r then r.asked else if r.ended then length r.given else floor sector (r.pos + length r.given) - r.pos

-- the kept part of the read covers x
abbrev pub covers : ℕ → Reading → ℕ → Bool
covers sector r x = nat_le r.pos x && nat_lt x (r.pos + kept sector r)
