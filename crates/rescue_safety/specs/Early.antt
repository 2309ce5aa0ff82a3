-- Runs that break the promise.
use Rattle.std.specs.Prelude.{◌≡◌, ℕ, false, true, List, [], ◌∷◌, length, Option}
use Rattle.faulty_source.specs.Journal.{Reading, is_whole}
use Rattle.crash_site.specs.Files.{File}
use Rattle.crash_site.specs.Calls.{Entry, Done, image_open, image_sync, draft_begin, draft_append}
use Rattle.crash_site.specs.Folder.{Folder}
use Rattle.crash_site.specs.Left.{MayBeLeft}
use Rattle.crash_site.specs.Laws.{early, settles}
use Rattle.crash_site.specs.LostLaws.{retried}
use Rattle.rescue_safety.specs.Safe.{Target, HasPlace}
use Rattle.rescue_safety.specs.Owed.{pairs_of}
use Rattle.rescue_safety.specs.OwedFiles.{IsOwedIn, IsOwedAt}

-- A run with these calls, which gave these pairs, breaks the promise: all was owed when it began, and of what a stop
-- after all of the calls may leave it isn't.
pub record Breaks (t : Target) (start : Folder) (calls : List Entry) (gave : List (ℕ × ℕ)) : Type 0 where
  pub before : IsOwedAt t [] (λ x. false) (record { start = start; earlier = [] })
  pub found : List ℕ → Option File
  pub left : MayBeLeft start calls (length calls) found
  pub not_owed : IsOwedIn t gave (λ x. false) found → ⊥

-- A run that writes all that a read gave at its place, and publishes its map before it syncs the image.
pub record IsTooEarly (t : Target) (start : Folder) (r : Reading) : Type 0 where
  pub whole : is_whole r ≡ true
  pub place : ℕ
  pub at : HasPlace t r.pos place
  pub draft : List ℕ
  pub text : List ℕ
  pub breaks : Breaks t start (early t.outfile draft t.mapfile place r.given text) (pairs_of 1 (r ∷ []))

-- A run that writes all that a read gave at its place, whose sync fails and is tried again, and that publishes its map
-- then.
pub record IsRetried (t : Target) (start : Folder) (r : Reading) : Type 0 where
  pub whole : is_whole r ≡ true
  pub place : ℕ
  pub at : HasPlace t r.pos place
  pub draft : List ℕ
  pub text : List ℕ
  pub breaks : Breaks t start (retried t.outfile draft t.mapfile place r.given text) (pairs_of 1 (r ∷ []))

-- an image is opened and synced, and a map saved, with no write
abbrev pub unwritten : (image draft name text : List ℕ) → List Entry
unwritten image draft name text =
    Done (image_open image true) ∷ Done image_sync ∷ Done (draft_begin draft) ∷ Done (draft_append text) ∷ settles name

-- A run that saves a map of what it read, and never writes what it read.
pub record IsUnwrittenMap (t : Target) (start : Folder) (r : Reading) : Type 0 where
  pub whole : is_whole r ≡ true
  pub draft : List ℕ
  pub text : List ℕ
  pub breaks : Breaks t start (unwritten t.outfile draft t.mapfile text) (pairs_of 1 (r ∷ []))
