-- Positions of a domain that have a status. For contracts and proofs: no promise uses it.
use Rattle.std.specs.Prelude.{◌≡◌, ℕ, Bool, true, List}
use Rattle.block_list.specs.declared.status.Status.{Status}
use Rattle.block_list.specs.Map.{Has}

-- a position of the domain that has a status
pub record IsMarked (domain : ℕ → Bool) (map : List Status) (status : Status) (x : ℕ) : Type 0 where
  pub within : domain x ≡ true
  pub has : Has map status x
