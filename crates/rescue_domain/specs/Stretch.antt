-- What is the same along positions. For contracts and proofs: no promise uses it.
use Rattle.std.specs.Prelude.{◌≡◌, ℕ, ◌<◌, ◌≤◌, Bool, not}

-- each position from one on, below another, has this value
pub record IsConstant {V : Type 0} (f : ℕ → V) (from to : ℕ) (value : V) : Type 0 where
  pub some : from < to
  pub each : (x : ℕ) → from ≤ x → x < to → f x ≡ value

-- The stretch of a set from a position on, below a limit: its positions are all in the set, or none is, and the one
-- after them isn't like them, unless the limit is there.
pub record IsStretchFrom (domain : ℕ → Bool) (x limit : ℕ) (inside : Bool) (to : ℕ) : Type 0 where
  pub alike : IsConstant domain x to inside
  pub within : to ≤ limit
  pub ends : to < limit → domain to ≡ not inside
