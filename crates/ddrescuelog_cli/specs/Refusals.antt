-- The refusals after the words, one a row, but that of a place, which `Work` has.
use Rattle.std.specs.Prelude.{◌≡◌, ◌⊎◌, ℕ, ◌<◌, ◌≤◌, true, List, length, Option, None, is_some, Err}
use Rattle.mapfile_text.specs.declared.read.Mode.{Mode}
use Rattle.mapfile_text.specs.declared.read.MapError.{MapError}
use Rattle.crash_site.specs.Files.{File}
use Rattle.mapfile_resume.specs.Resuming.{IsRefusedFor}
use Rattle.map_algebra.specs.Numbers.{list_limit, numbers_in}
use Rattle.ddrescuelog_words.specs.declared.options.LogOptions.{LogOptions}
use Rattle.ddrescuelog_cli.specs.declared.ending.Which.{Which}
use Rattle.ddrescuelog_cli.specs.declared.ending.LogEnding.{LogEnding}
use Rattle.ddrescuelog_cli.specs.declared.ending.LogEnding.TheVariants.{Exists, NoMap, MapRefused, BadNumber, ListTooLong}
use Rattle.ddrescuelog_cli.specs.Maps.{shape_of}

-- a map isn't there, or is no map, or is too long; one that says nothing is no map
abbrev pub MapIsRefused : Which → Mode → (file : Option File) → LogEnding → Type 0
MapIsRefused which mode file e =
    ((file ≡ None) × (e ≡ NoMap which))
    ⊎ ((error : MapError) × IsRefusedFor file mode error × (e ≡ MapRefused which error))

-- a refusal of what a name stands for, if there is one
abbrev pub IfNamed : Option (List ℕ) → (LogEnding → Type 0) → LogEnding → Type 0
IfNamed name refuses e = (is_some name ≡ true) × refuses e

-- a file is there already where a map is to be created
abbrev pub MapIsThere : (file : Option File) → LogEnding → Type 0
MapIsThere file e = (is_some file ≡ true) × (e ≡ Exists)

-- the list is too long, whatever it says; or it isn't, and a line of it is no block number
abbrev pub ListRefused : LogOptions → (list : List ℕ) → LogEnding → Type 0
ListRefused o list e =
    ((list_limit < length list) × (e ≡ ListTooLong))
    ⊎ ((line : ℕ) × (length list ≤ list_limit) × (numbers_in (shape_of o) list ≡ Err line) × (e ≡ BadNumber line))
