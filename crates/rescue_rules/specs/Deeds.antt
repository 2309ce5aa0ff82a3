-- A run that saves while it goes, whatever its work is.
use Rattle.std.specs.Prelude.{⊤, ℕ, suc, ◌+◌, ◌<◌, ◌≤◌, List, [], ◌∷◌, ◌++◌, length, Option, Some, None}
use Rattle.std.specs.List.{flat_map}
use Rattle.crash_site.specs.Files.{File, written}
use Rattle.crash_site.specs.Calls.{Call, image_read, image_write}
use Rattle.crash_site.specs.Left.{IsLoose, Matches}
use Rattle.mapfile_save.specs.Saving.{save_calls}
use Rattle.rescue_rules.specs.Setting.{Setting}
use Rattle.rescue_rules.specs.Snapshots.{Snapshot, text_of}
use Rattle.rescue_rules.specs.RunCalls.{closing_calls}

-- one thing that a run does on its files: calls on the open output, and the save that is due after them, if one is
pub record Deed : Type 0 where
  pub calls : List Call
  pub save : Option Snapshot

-- the calls of a save, if there is one
abbrev pub save_of : Setting → Option Snapshot → List Call
save_of s None = []
save_of s (Some p) = save_calls s.names (text_of s.line p)

-- the calls of a deed: those on the output, and then those of its save
abbrev pub deed_calls : Setting → Deed → List Call
deed_calls s d = d.calls ++ save_of s d.save

-- all calls of a run: its deeds, and at its end a save, or without a mapfile an image sync
abbrev pub doing_calls : Setting → List Deed → (last : Snapshot) → List Call
doing_calls s deeds last = flat_map (deed_calls s) deeds ++ closing_calls s last

-- the save that may be there, as a list: none, or one
abbrev pub some_save : Option Snapshot → List Snapshot
some_save None = []
some_save (Some p) = p ∷ []

-- what a run saves, in order: the saves of its deeds, and the last one
abbrev pub saves_in : List Deed → (last : Snapshot) → List Snapshot
saves_in deeds last = flat_map (λ d. some_save d.save) deeds ++ last ∷ []

-- the output after calls on it
abbrev pub image_after : List ℕ → List Call → List ℕ
image_after bytes [] = bytes
image_after bytes (image_write pos piece ∷ calls) = image_after (written bytes pos piece) calls
image_after bytes (call ∷ calls) = image_after bytes calls

-- the calls read the output, or write it, and what they write lies at places of this kind
abbrev pub WritesAt : (free : ℕ → Type 0) → List Call → Type 0
WritesAt free [] = ⊤
WritesAt free (image_write pos piece ∷ calls) =
    ((y : ℕ) → pos ≤ y → y < pos + length piece → free y) × WritesAt free calls
WritesAt free (image_read pos asked answer ∷ calls) = WritesAt free calls
WritesAt free (call ∷ calls) = ⊥

-- What the mapfile with a number promises of the output (number 0 is the one that was there before), and which places
-- may be written while it is the last one: a promise outlasts any bytes at these places.
pub record Outlasts (promise : ℕ → List ℕ → Type 0) (free : ℕ → ℕ → Type 0) (start : List ℕ) : Type 0 where
  pub lasts : (n : ℕ) (was now : File) (loose : List (ℕ × ℕ)) → Matches was loose now
      → ((y : ℕ) → IsLoose loose y → free n y) → length start ≤ length was.bytes
      → promise n was.bytes → promise n now.bytes

-- if there is a save, the next number's promise holds of the output; either way `next` holds of the last save's number
abbrev pub KeepsOn : (promise : ℕ → List ℕ → Type 0) → (n : ℕ) → (image : List ℕ) → Option Snapshot
    → (next : ℕ → Type 0) → Type 0
KeepsOn promise n image None next = next n
KeepsOn promise n image (Some p) next = promise (suc n) image × next (suc n)

-- After the save with a number, over an output: what is written until the next save is free of its promise, and when
-- the next one is made its promise holds of the output as it reads.
abbrev pub KeepsUp : (promise : ℕ → List ℕ → Type 0) → (free : ℕ → ℕ → Type 0) → (n : ℕ) → (image : List ℕ) → List Deed
    → Type 0
KeepsUp promise free n image [] = promise (suc n) image
KeepsUp promise free n image (d ∷ ds) =
    WritesAt (free n) d.calls
    × KeepsOn promise n (image_after image d.calls) d.save
    (λ m. KeepsUp promise free m (image_after image d.calls) ds)
