-- How far a domain was searched for positions that are finished in a map.
use Rattle.std.proofs.Common.{ℕ, ◌<◌, ◌≤◌, Bool, List}
use Rattle.block_list.specs.declared.status.Status.{Status}
use Rattle.rescue_domain.specs.Domain.{IsIn, finished_in}

-- nothing finished of a domain lies from one position on, up to another
pub record IsClear (domain : ℕ → Bool) (map : List Status) (from at : ℕ) : Type 0 where
  pub after : from ≤ at
  pub none : (x : ℕ) → from ≤ x → x < at → IsIn (finished_in domain map) x → ⊥
