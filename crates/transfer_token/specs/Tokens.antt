-- What a read is cut into, and what becomes of its parts. For contracts and proofs: no promise uses it.
use Rattle.std.specs.Prelude.{◌≡◌, ⊤, ℕ, ◌+◌, ◌-◌, ◌<◌, ◌≤◌, true, false, IsTrue, List, [], ◌∷◌, length, take, slice_range}
use Rattle.block_list.specs.declared.block.Range.{Range}
use Rattle.block_list.specs.declared.status.Status.{Status}
use Rattle.block_list.specs.declared.status.Status.TheVariants.{NonTried, NonTrimmed, NonScraped, BadSector, Finished}
use Rattle.faulty_source.specs.declared.source.Got.{Got}
use Rattle.faulty_source.specs.Got.{count_of, is_end}
use Rattle.faulty_source.specs.Journal.{Reading, is_whole, is_failed, kept}
use Rattle.faulty_source.specs.SourceState.{SourceState}
use Rattle.faulty_source.specs.SourceChanges.{Reads}
use Rattle.transfer_token.specs.declared.token.Request.{Request}
use Rattle.transfer_token.specs.declared.fetch.Cut.{Cut}
use Rattle.transfer_token.specs.declared.fetch.Cut.TheVariants.{Whole, Part, Nothing, Ended, Empty}

-- the positions from p up to q
abbrev pub between : ℕ → ℕ → Range
between p q = record { from = p; to = q }

-- how many positions a range has
abbrev pub size_of : Range → ℕ
size_of r = r.to - r.from

-- What a read is cut into: its kept part, and the rest. A whole read has no rest, and one that failed may have no kept
-- part. Of one that met the end all is kept that it gave, if it gave something, and the rest is over.
abbrev pub IsCut : (sector : ℕ) → Reading → Cut Range → Type 0
IsCut sector r (Whole loaded) =
    (is_whole r ≡ true) × (r.ended ≡ false) × (loaded ≡ between r.pos (r.pos + r.asked))
IsCut sector r (Part loaded missed) =
    (is_failed r ≡ true) × (0 < kept sector r) × (loaded ≡ between r.pos (r.pos + kept sector r))
    × (missed ≡ between (r.pos + kept sector r) (r.pos + r.asked))
IsCut sector r (Nothing missed) =
    (is_failed r ≡ true) × (kept sector r ≡ 0) × (missed ≡ between r.pos (r.pos + r.asked))
IsCut sector r (Ended loaded over) =
    (is_whole r ≡ false) × (r.ended ≡ true) × (0 < length r.given)
    × (loaded ≡ between r.pos (r.pos + length r.given)) × (over ≡ r.pos + length r.given)
IsCut sector r (Empty over) =
    (is_whole r ≡ false) × (r.ended ≡ true) × (length r.given ≡ 0) × (over ≡ r.pos)

-- what a read from here to the input's end is cut into
abbrev pub IsEndedCut : (from end : ℕ) → Cut Range → Type 0
IsEndedCut from end (Whole loaded) = ⊥
IsEndedCut from end (Part loaded missed) = ⊥
IsEndedCut from end (Nothing missed) = ⊥
IsEndedCut from end (Ended loaded over) = (from < end) × (loaded ≡ between from end) × (over ≡ end)
IsEndedCut from end (Empty over) = (from ≡ end) × (over ≡ end)

-- What came of a request spans it: its parts join, and none is empty. If the input ended within it, they span what lies
-- before the end.
abbrev pub Spans : Request → Cut Range → Type 0
Spans request (Whole loaded) = loaded ≡ between request.pos (request.pos + request.len)
Spans request (Part loaded missed) =
    (loaded.from ≡ request.pos) × (loaded.from < loaded.to) × (missed.from ≡ loaded.to) × (missed.from < missed.to)
    × (missed.to ≡ request.pos + request.len)
Spans request (Nothing missed) = missed ≡ between request.pos (request.pos + request.len)
Spans request (Ended loaded over) =
    (loaded.from ≡ request.pos) × (loaded.from < loaded.to) × (over ≡ loaded.to) × (over < request.pos + request.len)
Spans request (Empty over) = over ≡ request.pos

-- if something was loaded, its range has this property
abbrev pub IfLoaded : Cut Range → (Range → Type 0) → Type 0
IfLoaded (Whole loaded) holds = holds loaded
IfLoaded (Part loaded missed) holds = holds loaded
IfLoaded (Nothing missed) holds = ⊤
IfLoaded (Ended loaded over) holds = holds loaded
IfLoaded (Empty over) holds = ⊤

-- At the buffer's front are the bytes of the loaded range: those that the read gave first, as many as are kept, and so
-- the input's own.
pub record HoldsLoaded (sector : ℕ) (r : Reading) (source : SourceState) (buf : List ℕ) (loaded : Range) : Type 0 where
  pub given : take (size_of loaded) buf ≡ take (kept sector r) r.given
  pub own : IsTrue source.tells → take (size_of loaded) buf ≡ slice_range source.bytes loaded.from loaded.to

-- One read was made of what was requested, which answered this, and cut; what it gave is at the buffer's front.
pub record Fetches (request : Request) (sector : ℕ) (got : Got) (fetched : Cut Range) (buf : List ℕ)
    (old new : SourceState) : Type 0 where
  pub reading : Reading
  pub pos : reading.pos ≡ request.pos
  pub asked : reading.asked ≡ request.len
  pub count : length reading.given ≡ count_of got
  pub ended : reading.ended ≡ is_end got
  pub few : length reading.given ≤ request.len
  -- the read met the input's end only if it gave less than it was asked for
  pub ends : reading.ended ≡ true → length reading.given < request.len
  pub right : IsTrue old.tells → reading.given ≡ slice_range old.bytes reading.pos (reading.pos + length reading.given)
  pub read : Reads (reading ∷ []) old new
  pub cut : IsCut sector reading fetched
  pub spans : Spans request fetched
  pub front : take (length reading.given) buf ≡ reading.given
  pub loaded : IfLoaded fetched (HoldsLoaded sector reading old buf)

-- a status of what a read failed at
abbrev pub IsFailedStatus : Status → Type 0
IsFailedStatus NonTried = ⊥
IsFailedStatus NonTrimmed = ⊤
IsFailedStatus NonScraped = ⊤
IsFailedStatus BadSector = ⊤
IsFailedStatus Finished = ⊥
