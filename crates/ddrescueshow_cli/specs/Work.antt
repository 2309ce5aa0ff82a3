-- The work of `ddrescueshow`: the maps that its words name are read, and the picture of them is put.
use Rattle.std.specs.Prelude.{◌≡◌, ◌⊎◌, ℕ, ◌*◌, Bool, true, ◌&&◌, nat_lt, IsTrue, List, [], ◌∷◌, ◌++◌, length, Option, Some, None, is_some}
use Rattle.block_list.specs.declared.status.Status.{Status}
use Rattle.mapfile_text.specs.declared.read.MapError.{MapError}
use Rattle.mapfile_text.specs.declared.read.Mode.{Mode}
use Rattle.mapfile_text.specs.declared.read.Mode.TheVariants.{Tight}
use Rattle.crash_site.specs.Files.{File, file_named}
use Rattle.crash_site.specs.SiteState.{SiteState, files_in}
use Rattle.mapfile_resume.specs.Named.{IsMapOf, map_mode, HasStatuses}
use Rattle.mapfile_resume.specs.Resuming.{IsRefusedFor}
use Rattle.rescue_console.specs.declared.console.Channel.TheVariants.{Out}
use Rattle.rescue_console.specs.ConsoleState.{ConsoleState, Puts, PutsPart}
use Rattle.rescue_domain.specs.Domain.{in_map, whole_domain}
use Rattle.program_promise.specs.Work.{Deeds, IsIdle, Faults, WorkStep, Take, Look, Read, Works}
use Rattle.program_promise.specs.Printing.{PutsByKind}
use Rattle.ddrescueshow_words.specs.declared.options.ShowOptions.{ShowOptions}
use Rattle.ddrescueshow_words.specs.Command.{Command}
use Rattle.ddrescueshow_cli.specs.declared.ending.Which.{Which}
use Rattle.ddrescueshow_cli.specs.declared.ending.Which.TheVariants.{RunMap, DomainMap}
use Rattle.ddrescueshow_cli.specs.declared.ending.ShowEnding.{ShowEnding}
use Rattle.ddrescueshow_cli.specs.declared.ending.ShowEnding.TheVariants.{Done, TooManyCells, NoMap, MapRefused, SiteFault, ConsoleFault, NoMemory}
use Rattle.ddrescueshow_cli.specs.Answers.{row_of}
use Rattle.ddrescueshow_cli.specs.Cells.{frame_of}
use Rattle.ddrescueshow_cli.specs.Picture.{form_of, picture_text}

-- how faults are answered; no input is opened
abbrev pub show_faults : Faults ShowEnding
show_faults = record { call = λ call. SiteFault call; memory = NoMemory; input = NoMemory }

-- ---- the maps

-- the files that the work found, each by its own name; none if no domain map is named
pub record Found : Type 0 where
  pub mapfile : Option File
  pub domain : Option File

-- what a command finds among files
abbrev pub found_in : Command → (List ℕ → Option File) → Found
found_in c files = record { mapfile = files c.mapfile; domain = file_named c.domain_map files }

-- a map that is named isn't there, or is no map, or is too long
abbrev pub MapIsRefused : Which → Mode → (name : Option (List ℕ)) → (file : Option File) → ShowEnding → Type 0
MapIsRefused which mode name file e =
    (is_some name ≡ true)
    × (((file ≡ None) × (e ≡ NoMap which))
    ⊎ ((error : MapError) × IsRefusedFor file mode error × (e ≡ MapRefused which error)))

-- A map that is named, if one is, is read, and may be absent or refused.
abbrev pub map_rows : Which → Mode → (name : Option (List ℕ)) → (file : Option File) → List (WorkStep ShowEnding)
map_rows which mode name file = Read name file ∷ Look (MapIsRefused which mode name file) ∷ []

-- A picture in SVG has at most 16,000 cells: more wouldn't stay below 1 MiB.
abbrev pub is_too_large : ShowOptions → Bool
is_too_large o = o.svg && nat_lt 16000 (o.width * o.rows)

-- a picture is refused, since it would be too large
abbrev pub IsTooLarge : ShowOptions → ShowEnding → Type 0
IsTooLarge o e = (is_too_large o ≡ true) × (e ≡ TooManyCells)

-- The rows before the picture is put: memory may run out, the picture may be too large, the mapfile is read and then
-- the domain map, and memory for the picture may run out.
abbrev pub show_rows : Command → Found → List (WorkStep ShowEnding)
show_rows c found =
    Take ∷ Look (IsTooLarge c.options)
    ∷ (map_rows RunMap Tight (Some c.mapfile) found.mapfile
    ++ map_rows DomainMap (map_mode c.options.loose) c.domain_map found.domain ++ Take ∷ [])

-- After the rows nothing more is done on the files: the picture is put, or the console fails.
abbrev pub PutsAll : ShowEnding → Deeds → Type 0
PutsAll e d = ((e ≡ Done) ⊎ (e ≡ ConsoleFault)) × IsIdle d

-- The whole work for a command, by the files.
abbrev pub ShowWorks : Command → Found → ShowEnding → Deeds → Type 0
ShowWorks c found e d = Works show_faults (show_rows c found) PutsAll e d

-- If the files tell, those that were found are theirs, and so are the calls.
pub record Agrees (c : Command) (found : Found) (did : Deeds) (old new : SiteState) : Type 0 where
  pub files : IsTrue old.tells → found ≡ found_in c (files_in old)
  pub calls : IsTrue old.tells → new.calls ≡ old.calls ++ did.gain.calls

-- ---- the picture

-- the statuses of the mapfile, and of the domain map, if one is named
pub record Maps : Type 0 where
  pub statuses : List Status
  pub domain : Option (List Status)

-- the maps are what the files are
pub record AreMapsOf (c : Command) (found : Found) (m : Maps) : Type 0 where
  pub mapfile : IsMapOf found.mapfile Tight m.statuses
  pub domain : HasStatuses c.domain_map (map_mode c.options.loose) found.domain m.domain

-- The domain: each position of the mapfile from the input position on, no more than the size, and of these what is
-- finished in the domain map.
abbrev pub domain_of : Command → Maps → ℕ → Bool
domain_of c m = in_map (whole_domain c.options.input_position c.options.size (length m.statuses)) m.domain

-- the picture of a command's maps, by whether standard output is a terminal
abbrev pub text_of : (terminal : Bool) → Command → Maps → List ℕ
text_of terminal c m =
    picture_text (form_of c.options terminal) (frame_of c.options (length m.statuses)) (domain_of c m) m.statuses

-- the picture of the maps that the files are was put, or a beginning of it
pub record PutsPicture (terminal : Bool) (c : Command) (found : Found) (Put : (text : List ℕ) → Type 0) : Type 0 where
  pub maps : Maps
  pub are : AreMapsOf c found maps
  pub puts : Put (text_of terminal c maps)

-- What is left by the answer: on standard output the picture, or if the put failed a beginning of it; and after every
-- refusal, or if memory ran out, nothing.
abbrev pub LeavesAs : (terminal : Bool) → Command → Found → ShowEnding → (old new : ConsoleState) → Type 0
LeavesAs terminal c found e old new =
    PutsByKind (row_of e).kind (PutsPicture terminal c found (λ text. Puts Out text old new))
    (PutsPicture terminal c found (λ text. PutsPart Out text old new)) (new ≡ old) old new
