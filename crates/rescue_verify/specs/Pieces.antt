-- The pieces of a comparison: the sector parts of the ranges of positions that are to be compared, from the front on.
use Rattle.std.specs.Prelude.{◌≡◌, ⊤, ℕ, ◌+◌, ◌≤◌, min, Bool, List, [], ◌∷◌}
use Rattle.block_list.specs.declared.status.Status.{Status}
use Rattle.block_list.specs.Places.{IsFirst, IsRangeUp}
use Rattle.faulty_source.specs.Journal.{Reading, floor}
use Rattle.rescue_domain.specs.Domain.{IsIn, finished_in}

-- What is compared of a map: the positions of a domain that it calls finished.
abbrev pub compared_in : (domain : ℕ → Bool) → List Status → ℕ → Bool
compared_in domain map = finished_in domain map

-- The first piece from a place on, with its end. It begins at the first position that is to be compared, and goes on as
-- far as such positions do, but not over a multiple of the sector's size.
pub record IsPiece (compared : ℕ → Bool) (sector from pos end : ℕ) : Type 0 where
  pub range_end : ℕ
  pub first : IsFirst (IsIn compared) from pos
  pub range : IsRangeUp (IsIn compared) pos range_end
  pub ends : end ≡ min range_end (floor sector (pos + sector))

-- no position from a place on is to be compared
abbrev pub NoneFrom : (compared : ℕ → Bool) → (from : ℕ) → Type 0
NoneFrom compared from = (x : ℕ) → from ≤ x → IsIn compared x → ⊥

-- these reads ask for the first pieces from a place on, one each, in order
abbrev pub AskForPieces : (compared : ℕ → Bool) → (sector from : ℕ) → List Reading → Type 0
AskForPieces compared sector from [] = ⊤
AskForPieces compared sector from (r ∷ reads) =
    IsPiece compared sector from r.pos (r.pos + r.asked)
    × AskForPieces compared sector (r.pos + r.asked) reads

-- where the last of these reads ends
abbrev pub end_of_reads : (from : ℕ) → List Reading → ℕ
end_of_reads from [] = from
end_of_reads from (r ∷ reads) = end_of_reads (r.pos + r.asked) reads
