-- The work of `ddrescuelog`, as rows of the fold that the programs share: the maps that its words name, each read and
-- maybe refused, and then what its mode does with them. It says which answers may be given, and which calls were made
-- by then.
use Rattle.std.specs.Prelude.{◌≡◌, ◌⊎◌, ⊤, ℕ, Bool, true, false, List, [], ◌∷◌, ◌++◌, length, Option, Some, None, unwrap_or}
use Rattle.mapfile_text.specs.declared.read.Mode.{Mode}
use Rattle.mapfile_text.specs.declared.read.Mode.TheVariants.{Tight}
use Rattle.crash_site.specs.declared.site.SiteCall.TheVariants.{MapRead as MapReadCall}
use Rattle.crash_site.specs.declared.site.MapRead.{MapRead}
use Rattle.crash_site.specs.declared.site.MapRead.TheVariants.{Bytes, Absent}
use Rattle.crash_site.specs.Files.{File}
use Rattle.crash_site.specs.Calls.{Entry, Done as Returned, map_read}
use Rattle.crash_site.specs.CallsMade.{Lost}
use Rattle.mapfile_save.specs.Loading.{piece_size}
use Rattle.mapfile_resume.specs.Named.{map_mode}
use Rattle.option_words.specs.declared.fault.UsageFault.TheVariants.{PlaceTooLarge}
use Rattle.rescue_domain.specs.Domain.{whole_domain}
use Rattle.rescue_domain.specs.Places.{IsAnyBeyond}
use Rattle.program_promise.specs.Work.{Deeds, IsOnlyCalls, with_calls, WorkStep, Take, Look, Read, Works}
use Rattle.ddrescuelog_words.specs.Modes.{creates, mapfile_mode}
use Rattle.ddrescuelog_words.specs.Command.{Command}
use Rattle.ddrescuelog_cli.specs.declared.ending.Which.{Which}
use Rattle.ddrescuelog_cli.specs.declared.ending.Which.TheVariants.{DomainMap, RunMap, OtherMap}
use Rattle.ddrescuelog_cli.specs.declared.ending.LogEnding.{LogEnding}
use Rattle.ddrescuelog_cli.specs.declared.ending.LogEnding.TheVariants.{Usage, SiteFault}
use Rattle.ddrescuelog_cli.specs.Maps.{Found, Maps}
use Rattle.ddrescuelog_cli.specs.Refusals.{IfNamed, MapIsRefused, MapIsThere}
use Rattle.ddrescuelog_cli.specs.Modes.{log_faults, looks_at_places, EndsAs}

-- ---- the maps

-- A map that is named, if one is, is read, and may be absent or refused.
abbrev pub map_rows : Which → Mode → (name : Option (List ℕ)) → (file : Option File) → List (WorkStep LogEnding)
map_rows which mode name file = Read name file ∷ Look (IfNamed name (MapIsRefused which mode file)) ∷ []

-- after the mapfile: the other map, and then the domain map
abbrev pub named_rows : Command → Found → List (WorkStep LogEnding)
named_rows c found =
    map_rows OtherMap Tight c.other found.other
    ++ map_rows DomainMap (map_mode c.options.loose) c.domain_map found.domain

-- the maps, in the order in which they are read
abbrev pub read_rows : Command → Found → List (WorkStep LogEnding)
read_rows c found = map_rows RunMap (mapfile_mode c.mode) (Some c.mapfile) found.mapfile ++ named_rows c found

-- ---- over the maps

-- a position of the mapfile would end too far on in the output, whatever the domain map leaves of it
pub record PlacesRefused (c : Command) (m : Maps) (e : LogEnding) : Type 0 where
  pub lists : looks_at_places c.mode ≡ true
  pub beyond : IsAnyBeyond (whole_domain c.options.input_position c.options.size (length m.statuses))
      c.options.input_position (unwrap_or c.options.output_position c.options.input_position)
  pub is : e ≡ Usage PlaceTooLarge

-- The work over maps: memory may run out, -l refuses a position without a place in the output, and the mode ends.
abbrev pub WorksOver : Command → (line list : List ℕ) → Maps → LogEnding → Deeds → Type 0
WorksOver c line list m = Works log_faults (Take ∷ Look (PlacesRefused c m) ∷ []) (EndsAs c.mode c line list m)

-- ---- all of it

-- a read says whether a file is there
abbrev pub SaysIfThere : Option File → MapRead → Type 0
SaysIfThere None Absent = ⊤
SaysIfThere None (Bytes n) = ⊥
SaysIfThere (Some file) Absent = ⊥
SaysIfThere (Some file) (Bytes n) = ⊤

-- Unless that is forced, a map is created only if there is no file, which one read asks; then the work goes on. A read
-- that failed has no answer.
abbrev pub UnlessThere : (forced : Bool) → (name : List ℕ) → Option File → (LogEnding → Deeds → Type 0)
    → LogEnding → Deeds → Type 0
UnlessThere true name file more e d = more e d
UnlessThere false name file more e d =
    ((e ≡ SiteFault MapReadCall) × Lost (map_read name 0 piece_size None) [] d.gain.calls × IsOnlyCalls d)
    ⊎ ((answer : MapRead) × (rest : List Entry) × SaysIfThere file answer
    × (d.gain.calls ≡ Returned (map_read name 0 piece_size (Some answer)) ∷ rest)
    × Works log_faults (Look (MapIsThere file) ∷ []) more e (with_calls d rest))

-- the first rows, by whether a map is created: one that isn't there, or the one that is read
abbrev pub first_rows : (new : Bool) → Command → Found → List (WorkStep LogEnding)
first_rows false c found = Take ∷ read_rows c found
first_rows true c found = Take ∷ []

-- what is run after the first rows
abbrev pub RunsAs : (new : Bool) → Command → (line list : List ℕ) → Found → Maps → LogEnding → Deeds → Type 0
RunsAs false c line list found m = WorksOver c line list m
RunsAs true c line list found m =
    UnlessThere c.options.forced c.mapfile found.mapfile
    (Works log_faults (named_rows c found) (WorksOver c line list m))

-- the work by whether a map is created: the first rows, and what is run after them
abbrev pub WorksAs : (new : Bool) → Command → (line list : List ℕ) → Found → Maps → LogEnding → Deeds → Type 0
WorksAs new c line list found m = Works log_faults (first_rows new c found) (RunsAs new c line list found m)

-- The whole work for a command, with its command line, over the list that a feed has, the files that its steps find and
-- the maps that these are.
abbrev pub LogWorks : Command → (line list : List ℕ) → Found → Maps → LogEnding → Deeds → Type 0
LogWorks c line list found m = WorksAs (creates c.mode) c line list found m
