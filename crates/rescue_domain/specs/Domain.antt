-- The domain of a rescue: a set of positions, by a test whether a position is in it.
use Rattle.std.specs.Prelude.{◌≡◌, ℕ, ◌+◌, ◌<◌, Bool, true, ◌&&◌, nat_lt, nat_le, List, Option, Some, None, count_by}
use Rattle.std.specs.List.{range_with_len}
use Rattle.block_list.specs.declared.status.Status.{Status}
use Rattle.rescue_domain.specs.Finished.{is_finished_at}

-- a position is in the set
abbrev pub IsIn : (ℕ → Bool) → ℕ → Type 0
IsIn domain x = domain x ≡ true

-- x lies below the end of the positions from pos on, if their number is given
abbrev pub is_below : ℕ → Option ℕ → ℕ → Bool
is_below pos None x = true
is_below pos (Some size) x = nat_lt x (pos + size)

-- the positions from pos on, of the number that is given if one is, below a limit
abbrev pub whole_domain : ℕ → Option ℕ → ℕ → ℕ → Bool
whole_domain pos size limit x = nat_le pos x && is_below pos size x && nat_lt x limit

-- what is left of a set of positions: those that are finished in a map
abbrev pub finished_in : (ℕ → Bool) → List Status → ℕ → Bool
finished_in domain map x = domain x && is_finished_at map x

-- what is finished in a map of a set of positions, if there is a map, and else all of the set
abbrev pub in_map : (ℕ → Bool) → Option (List Status) → ℕ → Bool
in_map domain None = domain
in_map domain (Some map) = finished_in domain map

-- what of a set of positions lies from one position on, below another
abbrev pub listed_in : (ℕ → Bool) → (first end : ℕ) → ℕ → Bool
listed_in domain first end x = domain x && nat_le first x && nat_lt x end

-- n is the number of positions of the set: that of those below any end that lies past all of them
pub record IsSize (domain : ℕ → Bool) (n : ℕ) : Type 0 where
  pub counts : (end : ℕ) → ((x : ℕ) → IsIn domain x → x < end) → n ≡ count_by domain (range_with_len 0 end)
