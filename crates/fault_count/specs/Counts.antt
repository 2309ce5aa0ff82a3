-- How a count of faults rises.
use Rattle.std.specs.Prelude.{◌≡◌, ℕ, ◌+◌, ◌-◌, ◌^◌, ◌≤◌, min, Result, OnOk, OnErr}

-- a count after one more, which stays at the end of its type
abbrev pub raised : ℕ → ℕ
raised n = min (n + 1) (2 ^ 64 - 1)

-- the count rose by one, or it was at the end of its type
abbrev pub Rose : ℕ → ℕ → Type 0
Rose before now = now ≡ raised before

-- a count stays in a call that returned Ok, never falls, and a call that failed has raised it by one
pub record HasCause {T E : Type 0} (before now : ℕ) (result : Result T E) : Type 0 where
  pub kept : OnOk result (now ≡ before)
  pub later : before ≤ now
  pub failed : OnErr result (Rose before now)
