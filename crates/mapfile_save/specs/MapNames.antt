-- The names of a mapfile and of its draft.
use Rattle.std.specs.Prelude.{◌≡◌, ℕ, List, [], Option, Some, None}
use Rattle.crash_site.specs.Files.{draft_of}

-- the names of a mapfile and of its draft, as bytes
pub record MapNames : Type 0 where
  pub map : List ℕ
  pub draft : List ℕ

-- the draft is in the mapfile's folder: its name is the mapfile's, followed by `.tmp`
abbrev pub names_of : List ℕ → MapNames
names_of map = record { map = map; draft = draft_of map }

-- the draft has the name at which a settle of the mapfile looks
abbrev pub HasOwnDraft : MapNames → Type 0
HasOwnDraft names = names.draft ≡ draft_of names.map

-- the names of a mapfile and its draft, which mean nothing if there is no mapfile
abbrev pub names_in : Option MapNames → MapNames
names_in None = record { map = []; draft = [] }
names_in (Some names) = names
