-- What the definitions mean.
use Rattle.std.specs.Prelude.{◌≡◌, ◌≢◌, ⊤, ℕ, ◌^◌, ◌<◌, ◌≤◌, Bool, true, false, IsTrue, List, length, Some}
use Rattle.block_list.specs.declared.status.Status.{Status}
use Rattle.mapfile_text.specs.MapText.{text_limit}
use Rattle.mapfile_text.specs.declared.state.Current.TheVariants.{Copying}
use Rattle.mapfile_text.specs.declared.read.Mode.TheVariants.{Tight}
use Rattle.crash_site.specs.SiteState.{files_in}
use Rattle.mapfile_save.specs.SaveStops.{text_file}
use Rattle.map_algebra.specs.Create.{created_map}
use Rattle.program_promise.specs.Work.{Deeds, WorkStep}
use Rattle.program_promise.specs.Verdicts.{RefuseNothing}
use Rattle.program_promise.specs.Kinds.{Kind, Asked, Brought, Wrong, Failed, Starved}
use Rattle.program_promise.specs.Program.{line_by}
use Rattle.program_promise.specs.World.{Told}
use Rattle.program_promise.specs.WellMade.{IsVerdict as IsVerdictOf}
use Rattle.program_promise.specs.Laws.{KeepsPromises, NothingFailed}
use Rattle.ddrescuelog_words.specs.Modes.{creates}
use Rattle.ddrescuelog_words.specs.Command.{Command, Asks}
use Rattle.ddrescuelog_cli.specs.declared.ending.LogEnding.{LogEnding}
use Rattle.ddrescuelog_cli.specs.declared.ending.LogEnding.TheVariants.{Done, NoMemory}
use Rattle.ddrescuelog_cli.specs.Modes.{Finds, Replaces}
use Rattle.ddrescuelog_cli.specs.Maps.{Found, Maps, AreMapsOf, AreAskedFor, IsShownBy, shape_of, domain_below}
use Rattle.ddrescuelog_cli.specs.Refusals.{ListRefused, MapIsThere}
use Rattle.ddrescuelog_cli.specs.Results.{IsCreated}
use Rattle.ddrescuelog_cli.specs.Answers.{FitsCommand, row_of}
use Rattle.ddrescuelog_cli.specs.Stops.{IsChanging, OnlyReads}
use Rattle.ddrescuelog_cli.specs.Work.{PlacesRefused, LogWorks, named_rows, read_rows}
use Rattle.ddrescuelog_cli.specs.Ddrescuelog.{Ddrescuelog, log_program}

-- an answer that words, files and a list lead to, whatever calls, streams and memory do
abbrev pub IsVerdict : LogEnding → Type 0
IsVerdict e = IsVerdictOf log_program e

-- The work over some maps has one verdict at most.
abbrev pub HasOneVerdict : Type 0
HasOneVerdict = (c : Command) (line list : List ℕ) (found : Found) (m : Maps) (e e' : LogEnding) (d d' : Deeds)
    → LogWorks c line list found m e d → LogWorks c line list found m e' d' → IsVerdict e → IsVerdict e' → e ≡ e'

-- Words, files and a list have one verdict at most, whatever maps two calls went by.
abbrev pub FilesHaveOneVerdict : Type 0
FilesHaveOneVerdict = (c : Command) (line list : List ℕ) (found : Found) (m m' : Maps) (e e' : LogEnding)
    (d d' : Deeds) → AreMapsOf c found m → AreAskedFor c m → AreMapsOf c found m' → AreAskedFor c m'
    → LogWorks c line list found m e d → LogWorks c line list found m' e' d' → IsVerdict e → IsVerdict e' → e ≡ e'

-- of an answer that was asked for; other answers may leave anything
abbrev pub IfAsked : Kind → Type 0 → Type 0
IfAsked Asked found = found
IfAsked Brought found = ⊤
IfAsked (Wrong fault) found = ⊤
IfAsked (Failed at) found = ⊤
IfAsked Starved found = ⊤

-- what a mode itself answers
abbrev pub IsModeAnswer : LogEnding → (finds : LogEnding → Type 0) → Type 0
IsModeAnswer e finds = IfAsked (row_of e).kind (finds e)

-- An answer of a mode is what it finds in the maps, whatever the objects tell.
abbrev pub AnswersAreFound : Type 0
AnswersAreFound = (c : Command) (line list : List ℕ) (found : Found) (m : Maps) (e : LogEnding) (d : Deeds)
    → LogWorks c line list found m e d → IsModeAnswer e (Finds c.mode c m)

-- An answer of the work comes only if the words ask for what it speaks of.
abbrev pub AnswersFit : Type 0
AnswersFit = (c : Command) (line list : List ℕ) (found : Found) (m : Maps) (e : LogEnding) (d : Deeds)
    → LogWorks c line list found m e d → FitsCommand e c

-- A mode that only reads leaves every file as it read.
abbrev pub FilesStand : Type 0
FilesStand = (t : Told LogEnding) (c : Command) (d : Ddrescuelog t) (asks : Asks t.words c) → OnlyReads c.mode
    → IsTrue t.before.site.tells → (name : List ℕ) → files_in t.after.site name ≡ files_in t.before.site name

-- Once -c or -d has answered that it is done, the mapfile reads as the created map, or is absent.
abbrev pub MapfileIsLeft : Type 0
MapfileIsLeft = (t : Told LogEnding) (c : Command) (d : Ddrescuelog t) (asks : Asks t.words c) → t.answer ≡ Done
    → IsChanging c.mode → IsTrue t.before.site.tells
    → Replaces c.mode c (line_by log_program t.words) (d.asked_for c asks).outside.list
    (d.asked_for c asks).outside.maps (files_in t.after.site c.mapfile)

-- Whatever files are found, there are maps by which a command goes.
abbrev pub MapsAreThere : Type 0
MapsAreThere = (c : Command) (found : Found) → (m : Maps) × AreAskedFor c m × AreMapsOf c found m

-- the rows of the maps that are read: one that is created isn't
abbrev pub rows_of_maps : (creates_map : Bool) → Command → Found → List (WorkStep LogEnding)
rows_of_maps false c found = read_rows c found
rows_of_maps true c found = named_rows c found

-- Nothing of the work is refused: the maps that are named are there and are maps, and each position that is listed has
-- a place in the output. If a map is to be created, none is in its place, or that is forced, and its list is one.
pub record NothingIsRefused (c : Command) (list : List ℕ) (found : Found) (m : Maps) : Type 0 where
  pub maps : RefuseNothing (rows_of_maps (creates c.mode) c found)
  pub places : (v : LogEnding) → PlacesRefused c m v → ⊥
  pub free : creates c.mode ≡ true → c.options.forced ≡ false → (v : LogEnding) → MapIsThere found.mapfile v → ⊥
  pub numbers : creates c.mode ≡ true → (v : LogEnding) → ListRefused c.options list v → ⊥

-- If nothing failed, nothing is refused and memory doesn't run out, the answer is what the mode finds.
abbrev pub IsFoundUnless : Type 0
IsFoundUnless = (t : Told LogEnding) (c : Command) (d : Ddrescuelog t) (asks : Asks t.words c) → NothingFailed t
    → NothingIsRefused c (d.asked_for c asks).outside.list (d.asked_for c asks).outside.found
    (d.asked_for c asks).outside.maps
    → t.answer ≢ NoMemory → Finds c.mode c (d.asked_for c asks).outside.maps t.answer

-- A map that -c saved is read again as it was: the state at position 0, and the statuses.
abbrev pub CreatedIsRead : Type 0
CreatedIsRead = (c : Command) (listed rest : Status) (line : List ℕ) (m : Maps) (numbers text : List ℕ)
    → (made : IsCreated c listed rest line m numbers text) → made.end < 2 ^ 63 → length text ≤ text_limit
    → IsShownBy (Some (text_file text)) Tight (record { pos = 0; current = Copying; pass = 1 })
    (created_map (shape_of c.options) numbers (domain_below c.options m made.end) listed rest made.end)

-- What every program keeps.
abbrev pub LogKeepsPromises : Type 0
LogKeepsPromises = KeepsPromises log_program
