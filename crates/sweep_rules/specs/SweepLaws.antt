-- What sweeps mean for a map, and what they count.
use Rattle.std.specs.Prelude.{◌≡◌, ℕ, ◌⊎◌, List, take, drop, All, slice_get, Option, Some}
use Rattle.block_list.specs.declared.status.Status.{Status}
use Rattle.block_list.specs.declared.status.Status.TheVariants.{Finished}
use Rattle.block_list.specs.declared.types.TypeSet.{TypeSet}
use Rattle.block_list.specs.Map.{Has}
use Rattle.mapfile_text.specs.declared.state.MapState.{MapState}
use Rattle.rescue_rules.specs.Setting.{Setting, place}
use Rattle.sweep_rules.specs.Sweep.{Sweeper, Sweep, Swept, filler, generator, sweep_over, IsPiece, after_pieces}

-- the pieces gave what an output holds at their places, as far as it goes
abbrev pub AreGiven : Setting → (image : List ℕ) → List Swept → Type 0
AreGiven s image es = All (λ e. e.got ≡ take e.len (drop (place s e.pos) image)) es

-- law: a state has one piece at most
abbrev pub PieceIsOne : Type 0
PieceIsOne = (s : Setting) (w : Sweeper) (m : Sweep) (p q p' q' : ℕ) → IsPiece s w m p q → IsPiece s w m p' q'
    → (p ≡ p') × (q ≡ q')

-- law: a filling leaves its map as it is
abbrev pub FilledMapStands : Type 0
FilledMapStands = (s : Setting) (types : TypeSet) (buffer : List ℕ) (m : Sweep) (es : List Swept)
    → (after_pieces (filler s types buffer) m es).map ≡ m.map

-- law: generate mode finishes only positions that were finished, or for which the output holds a byte
abbrev pub GeneratesWhatIsHeld : Type 0
GeneratesWhatIsHeld = (s : Setting) (image : List ℕ) (m : Sweep) (es : List Swept) → AreGiven s image es → (x : ℕ)
    → Has (after_pieces (generator s) m es).map Finished x
    → Has m.map Finished x ⊎ ((b : ℕ) × (slice_get image (place s x) ≡ Some b))

-- law: a sweep counts no failed read, since it reads no input
abbrev pub SweepFailsNoRead : Type 0
SweepFailsNoRead = (w : Sweeper) (map : List Status) (state : Option MapState) (time : ℕ) (es : List Swept)
    → (after_pieces w (sweep_over w map state time) es).tally.failed ≡ 0
