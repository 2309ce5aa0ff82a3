-- An image under its name, along the calls on it alone.
use Rattle.std.specs.Prelude.{◌≡◌, ⊤, ℕ, false, List, [], ◌∷◌, length, Some}
use Rattle.crash_site.specs.Files.{File, written_file}
use Rattle.crash_site.specs.Disk.{Version, Showing, lose, lose_all, in_each, loosened, synced}

-- one version
abbrev pub one_version : Version → Showing
one_version v = record { durable = v; since = []; any_text = false; anything = false }

-- a call on an image: it was written, it was synced, or one of both failed
pub data Touch : Type 0 where
  Wrote : (pos : ℕ) → (piece : List ℕ) → Touch
  Synced : Touch
  Unwrote : (pos : ℕ) → (piece : List ℕ) → Touch
  Unsynced : Touch

-- an image as it reads, and what a stop may show of it
pub record Image : Type 0 where
  pub reads : File
  pub shows : Showing

-- an image after a call on it, as an entry of the record does it under the image's name
abbrev pub touched : Image → Touch → Image
touched i (Wrote pos piece) =
    record { reads = written_file (Some i.reads) pos piece; shows = loosened pos (length piece) i.shows }
touched i Synced = record { reads = i.reads; shows = synced (Some i.reads) i.shows }
touched i (Unwrote pos piece) =
    record { reads = i.reads; shows = in_each (lose pos (length piece)) (loosened pos (length piece) i.shows) }
touched i Unsynced = record { reads = i.reads; shows = in_each lose_all i.shows }

-- an image after calls on it
abbrev pub touched_by : Image → List Touch → Image
touched_by i [] = i
touched_by i (t ∷ ts) = touched_by (touched i t) ts

-- calls that returned, and perhaps one more that failed
abbrev pub AreOfRun : List Touch → Type 0
AreOfRun [] = ⊤
AreOfRun (Wrote pos piece ∷ ts) = AreOfRun ts
AreOfRun (Synced ∷ ts) = AreOfRun ts
AreOfRun (Unwrote pos piece ∷ ts) = ts ≡ []
AreOfRun (Unsynced ∷ ts) = ts ≡ []

-- an image that was synced when these ranges were lost
abbrev pub after_sync : File → List (ℕ × ℕ) → Image
after_sync file lost = record {
  reads = file;
  shows =
      one_version (record { file = Some file; loose = lost; lost = lost });
}
