-- What an output holds of the positions that a mapfile calls finished.
use Rattle.std.specs.Prelude.{◌≡◌, ◌⊎◌, ℕ, true, false, List, take, slice_get, Option, Some, None}
use Rattle.crash_site.specs.Files.{File, bytes_of, draft_of}
use Rattle.crash_site.specs.Left.{IsLoose}
use Rattle.rescue_rules.specs.Stops.{Before, files_before, lost_before, has_barrier, CouldBefore}
use Rattle.rescue_safety.specs.Saves.{CallsFinished}
use Rattle.rescue_safety.specs.Safe.{Target, HasPlace, Run, gives}

-- The output holds what reads gave the position x: its place has the byte that was given last, the input's own.
pub record HoldsGiven (r : Run) (files : List ℕ → Option File) (x : ℕ) : Type 0 where
  pub byte : ℕ
  pub given : gives r x ≡ Some byte
  pub own : slice_get r.input x ≡ Some byte
  pub place : ℕ
  pub at : HasPlace r.target x place
  pub holds : slice_get (bytes_of (files r.target.outfile)) place ≡ Some byte

-- The mapfile called the position x finished before, and the output holds in the place of x, if it has one, the byte
-- that was there before, if there was one, unless that place was lost before.
pub record StillHolds (t : Target) (from : Before) (found : List ℕ → Option File) (x : ℕ) : Type 0 where
  pub finished : CallsFinished (files_before from t.mapfile) x
  pub holds : (y b : ℕ) → HasPlace t x y → slice_get (bytes_of (files_before from t.outfile)) y ≡ Some b
      → (IsLoose (lost_before from t.outfile) y → ⊥) → slice_get (bytes_of (found t.outfile)) y ≡ Some b

-- What a stop leaves holds what its mapfile calls finished, when the first k calls have returned and the next is in
-- progress:
pub record HoldsFinished (r : Run) (k : ℕ) (files : List ℕ → Option File) : Type 0 where
  -- Until the barrier has returned, all files are as they could be found before, except that an absent output or draft
  -- may be there, empty.
  pub until_barrier : has_barrier (take k r.calls) ≡ false
      → CouldBefore r.past r.target.outfile (draft_of r.target.mapfile) files
  -- Once the barrier has returned, the output holds each position that the mapfile found calls finished: as a read
  -- gave it last; or, if none gave it a byte, as the output held it before, unless it was lost before.
  pub past_barrier : has_barrier (take k r.calls) ≡ true → (x : ℕ) → CallsFinished (files r.target.mapfile) x
      → HoldsGiven r files x ⊎ ((gives r x ≡ None) × StillHolds r.target r.past files x)
