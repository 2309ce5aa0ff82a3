-- What the definitions mean.
use Rattle.std.specs.Prelude.{◌≡◌, ◌↔◌, ℕ, ◌+◌, ◌<◌, Bool, true, false, ◌&&◌, ◌||◌, List}
use Rattle.block_list.specs.declared.status.Status.{Status}
use Rattle.block_list.specs.Map.{Has}
use Rattle.block_list.specs.Places.{IsRangeUp}
use Rattle.rescue_domain.specs.Domain.{IsIn}
use Rattle.rescue_domain.specs.Finished.{is_finished_at}
use Rattle.map_algebra.specs.declared.combine.Op.{Op}
use Rattle.map_algebra.specs.declared.combine.Op.TheVariants.{And, Or, Xor}
use Rattle.map_counts.specs.At.{status_at, map_by}
use Rattle.map_algebra.specs.Combine.{combined_map}
use Rattle.map_algebra.specs.Compare.{FinishAlikeIn}
use Rattle.block_list.specs.Areas.{begins_area}

-- a map by statuses has each of them
abbrev pub MapHasEach : Type 0
MapHasEach = (status : ℕ → Status) (end x : ℕ) → x < end → Has (map_by status end) (status x) x

-- an area begins where a range of the set begins, and each range begins one
abbrev pub AreasAreRanges : Type 0
AreasAreRanges =
    (set : ℕ → Bool) (bound x : ℕ) → ((y : ℕ) → IsIn set y → y < bound)
    → (begins_area set x ≡ true)
    ↔ ((end : ℕ) × IsRangeUp (IsIn set) x end × ((y : ℕ) → y + 1 ≡ x → IsIn set y → ⊥))

-- In the domain, `and` finishes what both maps finish.
abbrev pub AndFinishesBoth : Type 0
AndFinishesBoth =
    (domain : ℕ → Bool) (first second : List Status) (x : ℕ) → domain x ≡ true
    → is_finished_at (combined_map And domain first second) x ≡ (is_finished_at first x && is_finished_at second x)

-- In the domain, `or` finishes what either map finishes.
abbrev pub OrFinishesEither : Type 0
OrFinishesEither =
    (domain : ℕ → Bool) (first second : List Status) (x : ℕ) → domain x ≡ true
    → is_finished_at (combined_map Or domain first second) x ≡ (is_finished_at first x || is_finished_at second x)

-- No operation changes a position outside of the domain.
abbrev pub OtherPositionsStand : Type 0
OtherPositionsStand =
    (op : Op) (domain : ℕ → Bool) (first second : List Status) (x : ℕ) → domain x ≡ false
    → status_at (combined_map op domain first second) x ≡ status_at first x

-- xor with the second once more gives back what the first has finished
abbrev pub XorUndoesItself : Type 0
XorUndoesItself =
    (domain : ℕ → Bool) (first second : List Status)
    → FinishAlikeIn domain (combined_map Xor domain (combined_map Xor domain first second) second) first
