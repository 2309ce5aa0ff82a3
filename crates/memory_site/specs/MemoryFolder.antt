-- The folder that files in memory stand for. For contracts and proofs: no promise uses it.
use Rattle.std.specs.Prelude.{ℕ, List, Option, Some, None, Vec}
use Rattle.std.specs.declared.alloc.Global.{Global}
use Rattle.memory_site.specs.declared.memory.memory_folder.MemoryFolder.{MemoryFolder}
use Rattle.crash_site.specs.Folder.{Folder}
use Rattle.memory_site.specs.Places.{files_of}

-- the bytes of a name, if there is one
abbrev pub name_of : Option (Vec ℕ Global) → Option (List ℕ)
name_of None = None
name_of (Some v) = Some v.items

-- a folder in memory as a folder
abbrev pub folder_of : MemoryFolder → Folder
folder_of m = record { files = files_of m.places.items; image = name_of m.image; draft = name_of m.draft }
