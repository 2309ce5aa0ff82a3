-- The files that a list of named files stands for. For contracts and proofs: no promise uses it.
use Rattle.std.specs.Prelude.{◌≡◌, ℕ, ◌<◌, Bool, false, List, [], ◌∷◌, length, slice_index_or, Option, Some, None, if◌then◌else◌}
use Rattle.std.specs.Str.{bytes_eq}
use Rattle.memory_site.specs.declared.memory.places.MemoryFile.{MemoryFile}
use Rattle.memory_site.specs.declared.memory.places.NamedFile.{NamedFile}
use Rattle.crash_site.specs.Files.{File, empty_file}

-- a file in memory as a file
abbrev pub file_of : Option MemoryFile → Option File
file_of None = None
file_of (Some f) = Some (record { bytes = f.bytes.items; regular = f.regular })

-- the name of a place, and the file there
abbrev pub name_and_file : NamedFile → List ℕ × Option File
name_and_file p = (p.name.items, file_of p.file)

-- the files of a list of places: the first place with a name says which file has it
abbrev pub files_of : List NamedFile → List ℕ → Option File
files_of [] n = None
files_of (p ∷ ps) n = if bytes_eq n p.name.items then file_of p.file else files_of ps n

-- the place at i is the first one with this name
pub record IsPlaceOf (places : List NamedFile) (name : List ℕ) (i : ℕ) : Type 0 where
  pub within : i < length places
  pub here : (d : NamedFile) → (slice_index_or places i d).name.items ≡ name
  pub before : (k : ℕ) (d : NamedFile) → k < i → bytes_eq name (slice_index_or places k d).name.items ≡ false

-- the file that has a name after an open
abbrev pub opened_file : Option File → Bool → Option File
opened_file None make = if make then Some empty_file else None
opened_file (Some f) make = Some f
