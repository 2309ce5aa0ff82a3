-- The calls that read a mapfile, and those before them.
use Rattle.std.specs.Prelude.{◌≡◌, ◌⊎◌, ℕ, ◌+◌, ◌<◌, ◌≤◌, List, [], ◌∷◌, ◌++◌, length, sum, All, Option, Some, None}
use Rattle.mapfile_text.specs.MapText.{text_limit}
use Rattle.crash_site.specs.declared.site.MapRead.{MapRead}
use Rattle.crash_site.specs.declared.site.MapRead.TheVariants.{Bytes, Absent}
use Rattle.crash_site.specs.Files.{File, bytes_of}
use Rattle.crash_site.specs.Calls.{Call, map_read, map_settle, image_sync}
use Rattle.mapfile_save.specs.MapNames.{MapNames}

-- how many bytes of a mapfile are asked for at a time
abbrev pub piece_size : ℕ
piece_size = 4096

-- reads of a file from a position on that gave this many bytes each: every one asks for a piece after those that were
-- given
abbrev pub piece_reads : (name : List ℕ) → (pos : ℕ) → (given : List ℕ) → List Call
piece_reads name pos [] = []
piece_reads name pos (n ∷ ns) = map_read name pos piece_size (Some (Bytes n)) ∷ piece_reads name (pos + n) ns

-- reads from the file's beginning on, and the read after them with its answer
abbrev pub load_reads : (name : List ℕ) → (given : List ℕ) → (answer : Option MapRead) → List Call
load_reads name given answer = piece_reads name 0 given ++ map_read name (sum given) piece_size answer ∷ []

-- how many bytes a read that finds some may give
abbrev pub IsReadSize : ℕ → Type 0
IsReadSize n = (0 < n) × (n ≤ piece_size)

-- the first reads of a file; the last of them may have failed, and then has no answer
pub record BeginsLoad (name : List ℕ) (file : Option File) (calls : List Call) : Type 0 where
  pub given : List ℕ
  pub answer : Option MapRead
  pub pieces : All IsReadSize given
  pub within : sum given ≤ length (bytes_of file)
  pub limited : sum given ≤ text_limit
  pub calls_are : calls ≡ load_reads name given answer

-- the read after this many bytes ends a load: it finds no such file, the file's end, or more bytes than a text may have
abbrev pub EndsLoad : Option File → (taken : ℕ) → Option MapRead → Type 0
EndsLoad file taken None = ⊥
EndsLoad file taken (Some Absent) = file ≡ None
EndsLoad file taken (Some (Bytes n)) =
    ((n ≡ 0) × (taken ≡ length (bytes_of file)))
    ⊎ (IsReadSize n × (text_limit < taken + n) × (taken + n ≤ length (bytes_of file)))

-- all reads of a file, up to the one that ends the load
pub record IsLoad (name : List ℕ) (file : Option File) (calls : List Call) : Type 0 where
  pub begins : BeginsLoad name file calls
  pub ends : EndsLoad file (sum begins.given) begins.answer

-- The barrier before the first read: the mapfile is settled and the image synced, so that nothing of an earlier run is
-- pending.
abbrev pub barrier_calls : MapNames → List Call
barrier_calls names = map_settle names.map ∷ image_sync ∷ []
