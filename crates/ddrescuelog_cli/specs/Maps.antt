-- The maps by which `ddrescuelog` goes, and what its options ask for of them.
use Rattle.std.specs.Prelude.{◌≡◌, ℕ, ◌≤◌, max, Bool, true, false, List, [], length, Option, Some, None, unwrap_or}
use Rattle.block_list.specs.declared.status.Status.{Status}
use Rattle.mapfile_text.specs.declared.state.MapState.{MapState}
use Rattle.mapfile_text.specs.declared.read.Mode.{Mode}
use Rattle.mapfile_text.specs.declared.read.Mode.TheVariants.{Tight}
use Rattle.mapfile_text.specs.MapText.{text_limit, IsMapText}
use Rattle.crash_site.specs.Files.{File, file_named}
use Rattle.mapfile_resume.specs.Named.{IsMapOf, map_mode}
use Rattle.rescue_domain.specs.Domain.{whole_domain, in_map}
use Rattle.map_algebra.specs.declared.shape.Shape.{Shape}
use Rattle.ddrescuelog_words.specs.declared.options.LogOptions.{LogOptions}
use Rattle.ddrescuelog_words.specs.Modes.{creates, mapfile_mode}
use Rattle.ddrescuelog_words.specs.Command.{Command}

-- The files that steps of the work found, each by its own name; none if no name is given.
pub record Found : Type 0 where
  pub mapfile : Option File
  pub other : Option File
  pub domain : Option File

-- what a command finds among files that don't change
abbrev pub found_in : Command → (List ℕ → Option File) → Found
found_in c files = record {
  mapfile = files c.mapfile;
  other = file_named c.other files;
  domain = file_named c.domain_map files;
}

-- What the mapfile shows, and the statuses of the mapfile, of the other map and of the domain map. A map to be created
-- has no statuses yet, and so has another map that isn't named.
pub record Maps : Type 0 where
  pub shown : MapState
  pub statuses : List Status
  pub other : List Status
  pub domain : Option (List Status)

-- a file is there, and its text, which isn't too long, shows this and has these statuses
pub record IsShownBy (file : Option File) (mode : Mode) (shown : MapState) (statuses : List Status) : Type 0 where
  pub there : File
  pub is : file ≡ Some there
  pub within : length there.bytes ≤ text_limit
  pub first : ℕ
  pub listed : Bool
  pub reads : IsMapText there.bytes mode shown first listed statuses

-- The maps are what the files are. If a file isn't there or is no map, the maps may be any: then the words are answered
-- by a refusal.
pub record AreMapsOf (c : Command) (found : Found) (m : Maps) : Type 0 where
  pub mapfile : (shown : MapState) (statuses : List Status) → creates c.mode ≡ false
      → IsShownBy found.mapfile (mapfile_mode c.mode) shown statuses
      → (m.shown ≡ shown) × (m.statuses ≡ statuses)
  pub other : (name : List ℕ) (statuses : List Status) → c.other ≡ Some name
      → IsMapOf found.other Tight statuses → m.other ≡ statuses
  pub domain : (name : List ℕ) (statuses : List Status) → c.domain_map ≡ Some name
      → IsMapOf found.domain (map_mode c.options.loose) statuses → m.domain ≡ Some statuses

-- There are statuses only if the words ask for a map.
pub record AreAskedFor (c : Command) (m : Maps) : Type 0 where
  pub mapfile : creates c.mode ≡ true → m.statuses ≡ []
  pub other : c.other ≡ None → m.other ≡ []
  pub domain : c.domain_map ≡ None → m.domain ≡ None

-- the blocks of the output
abbrev pub shape_of : LogOptions → Shape
shape_of o = record { ipos = o.input_position; opos = unwrap_or o.output_position o.input_position; size = o.block }

-- The domain of maps that end there: each position from the input position on, no more than the size, and of these
-- what is finished in the domain map.
abbrev pub domain_below : LogOptions → Maps → (end : ℕ) → ℕ → Bool
domain_below o m end = in_map (whole_domain o.input_position o.size end) m.domain

-- where the longer of the maps that were read ends
abbrev pub end_of : Maps → ℕ
end_of m = max (length m.statuses) (length m.other)

-- the domain of the maps that were read, which ends with the longer one
abbrev pub domain_of : Command → Maps → ℕ → Bool
domain_of c m = domain_below c.options m (end_of m)
