-- The first range of positions with a property, and the last.
use Rattle.std.specs.Prelude.{◌≡◌, ℕ, ◌+◌, ◌-◌, ◌<◌, ◌≤◌}

-- x is the least place at or after from at which P holds
pub record IsFirst (P : ℕ → Type 0) (from x : ℕ) : Type 0 where
  pub after : from ≤ x
  pub holds : P x
  pub least : (y : ℕ) → from ≤ y → P y → x ≤ y

-- P holds from x on, up to end and not there
pub record IsRangeUp (P : ℕ → Type 0) (x end : ℕ) : Type 0 where
  pub begun : x < end
  pub within : (y : ℕ) → x ≤ y → y < end → P y
  pub stops : P end → ⊥

-- end is the greatest end at or before a place such that P holds right below it
pub record IsLast (P : ℕ → Type 0) (before end : ℕ) : Type 0 where
  pub below : end ≤ before
  pub some : 0 < end
  pub holds : P (end - 1)
  pub greatest : (y : ℕ) → y < before → P y → y < end

-- P holds below end, down to start and not below it
pub record IsRangeDown (P : ℕ → Type 0) (start end : ℕ) : Type 0 where
  pub begun : start < end
  pub within : (y : ℕ) → start ≤ y → y < end → P y
  pub stops : (y : ℕ) → y + 1 ≡ start → P y → ⊥
