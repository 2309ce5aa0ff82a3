-- The byte that reads gave a position last.
use Rattle.std.specs.Prelude.{ℕ, ◌-◌, List, [], ◌∷◌, slice_get, Option, Some, None, if◌then◌else◌}
use Rattle.faulty_source.specs.Journal.{Reading, covers}

-- the later of two bytes, if there is one
abbrev pub last_of_both : Option ℕ → Option ℕ → Option ℕ
last_of_both (Some later) earlier = Some later
last_of_both None earlier = earlier

-- the byte that the last read whose kept part covers x gave there
abbrev pub given : ℕ → List Reading → ℕ → Option ℕ
given sector [] x = None
given sector (r ∷ rs) x =
    last_of_both (given sector rs x) (if covers sector r x then slice_get r.given (x - r.pos) else None)
