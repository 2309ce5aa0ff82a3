-- What a search has passed, and how much it looked at. For contracts and proofs: no promise uses it.
use Rattle.std.specs.Prelude.{ℕ, ◌+◌, ◌<◌, ◌≤◌, List}
use Rattle.block_list.specs.declared.status.Status.{Status}
use Rattle.block_list.specs.Map.{Has}

-- some blocks of a page were read, of which it has at most 64, and the begin of the one after them
pub record IsWalk (old new blocks : ℕ) : Type 0 where
  pub within : new ≤ old + blocks + 1
  pub few : new ≤ old + 65

-- no position from one up to another has a status
pub record IsBare (map : List Status) (s : Status) (from to : ℕ) : Type 0 where
  pub bare : (x : ℕ) → from ≤ x → x < to → Has map s x → ⊥
