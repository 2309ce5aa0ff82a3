-- The writes of a rescue, by its calls and by its reads.
use Rattle.std.specs.Prelude.{ℕ, ◌+◌, ◌-◌, nat_eq, List, [], ◌∷◌, ◌++◌, take, if◌then◌else◌}
use Rattle.faulty_source.specs.Journal.{Reading, kept}
use Rattle.crash_site.specs.Calls.{Entry, Done, Failed, image_write}
use Rattle.rescue_safety.specs.Safe.{Target}

-- the writes among these calls, each a place and its bytes
abbrev pub written_in : List Entry → List (ℕ × List ℕ)
written_in [] = []
written_in (Done (image_write pos piece) ∷ es) = (pos, piece) ∷ written_in es
written_in (Failed (image_write pos piece) steps ∷ es) = (pos, piece) ∷ written_in es
written_in (e ∷ es) = written_in es

-- what these reads kept, each its place and its bytes; a read of which nothing is kept is left out
abbrev pub kept_in : Target → (sector : ℕ) → List Reading → List (ℕ × List ℕ)
kept_in t sector [] = []
kept_in t sector (r ∷ rs) =
    (if nat_eq (kept sector r) 0 then [] else (r.pos + t.to - t.from, take (kept sector r) r.given) ∷ [])
    ++ kept_in t sector rs
