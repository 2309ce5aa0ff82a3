-- What an output owes to its mapfile, by all that was given to its positions.
use Rattle.std.specs.Prelude.{◌≡◌, ℕ, nat_eq, List, [], ◌∷◌, take, slice_get, Option, Some, None, if◌then◌else◌}
use Rattle.std.specs.List.{flat_map, enumerate_from}
use Rattle.faulty_source.specs.Journal.{Reading, kept}
use Rattle.rescue_rules.specs.Given.{last_of_both}
use Rattle.rescue_safety.specs.Safe.{Target, HasPlace}

-- the byte that the last pair of a list gives a position, if one does
abbrev pub last_given : List (ℕ × ℕ) → ℕ → Option ℕ
last_given [] x = None
last_given (g ∷ gs) x = last_of_both (last_given gs x) (if nat_eq g.0 x then Some g.1 else None)

-- what reads gave, as pairs of a position and its byte, over their kept parts
abbrev pub pairs_of : (sector : ℕ) → List Reading → List (ℕ × ℕ)
pairs_of sector reads = flat_map (λ r. enumerate_from r.pos (take (kept sector r) r.given)) reads

-- The place of the position x in the output holds the byte that x was given last.
pub record HoldsLast (t : Target) (last : ℕ → Option ℕ) (image : List ℕ) (x : ℕ) : Type 0 where
  pub byte : ℕ
  pub given : last x ≡ Some byte
  pub place : ℕ
  pub at : HasPlace t x place
  pub holds : slice_get image place ≡ Some byte
