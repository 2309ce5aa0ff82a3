-- The modes, a row each: what a mode finds in the maps, prints of them, and leaves, and how it ends.
use Rattle.std.specs.Prelude.{◌≡◌, ◌⊎◌, ℕ, Bool, true, false, List, [], ◌∷◌, flat_map, Option, Some, None, Ok}
use Rattle.block_list.specs.declared.status.Status.{Status}
use Rattle.crash_site.specs.Files.{File}
use Rattle.crash_site.specs.Calls.{Call, map_remove, map_settle}
use Rattle.mapfile_save.specs.MapNames.{names_of}
use Rattle.mapfile_save.specs.SaveStops.{text_file}
use Rattle.mapfile_save.specs.Saving.{save_calls}
use Rattle.map_algebra.specs.Change.{changed_map}
use Rattle.map_algebra.specs.Combine.{combined_map}
use Rattle.map_algebra.specs.Compare.{IsDoneIn, IsOpenIn, AgreeIn, DifferIn, FinishAlikeIn, FinishUnlikeIn}
use Rattle.map_algebra.specs.Listing.{listed}
use Rattle.map_algebra.specs.Numbers.{numbers_in}
use Rattle.map_counts.specs.Summary.{summary_of}
use Rattle.program_promise.specs.Work.{Deeds, IsIdle, Faults, Look, Make, Works}
use Rattle.ddrescuelog_words.specs.declared.mode.LogMode.{LogMode}
use Rattle.ddrescuelog_words.specs.declared.mode.LogMode.TheVariants.{Change, Combine, Complete, ListBlocks, Create, Test, Compare, Summarize}
use Rattle.ddrescuelog_words.specs.Command.{Command}
use Rattle.ddrescuelog_cli.specs.declared.ending.LogEnding.{LogEnding}
use Rattle.ddrescuelog_cli.specs.declared.ending.LogEnding.TheVariants.{Done, NotDone, Differ, SiteFault, FeedFault, ConsoleFault, NoMemory}
use Rattle.ddrescuelog_cli.specs.Maps.{Maps, shape_of, domain_of}
use Rattle.ddrescuelog_cli.specs.Results.{map_text, number_line, summary_text, wanted_by, IsCreated}
use Rattle.ddrescuelog_cli.specs.Refusals.{ListRefused}

-- how a fault is answered; no input is opened
abbrev pub log_faults : Faults LogEnding
log_faults = record { call = λ call. SiteFault call; memory = NoMemory; input = NoMemory }

-- ---- what is found

-- what is asked of the maps holds; or it fails, which is answered so
abbrev pub HoldsOr : (otherwise : LogEnding) → (Holds Fails : Type 0) → LogEnding → Type 0
HoldsOr otherwise Holds Fails e = ((e ≡ Done) × Holds) ⊎ ((e ≡ otherwise) × Fails)

-- whether the map is done
abbrev pub FindsDone : Command → Maps → LogEnding → Type 0
FindsDone c m = HoldsOr NotDone (IsDoneIn (domain_of c m) m.statuses) (IsOpenIn (domain_of c m) m.statuses)

-- whether both maps agree, or the same positions are finished in both
abbrev pub FindsSame : (finished : Bool) → Command → Maps → LogEnding → Type 0
FindsSame false c m =
    HoldsOr Differ (AgreeIn (domain_of c m) m.statuses m.other) (DifferIn (domain_of c m) m.statuses m.other)
FindsSame true c m =
    HoldsOr Differ (FinishAlikeIn (domain_of c m) m.statuses m.other)
    (FinishUnlikeIn (domain_of c m) m.statuses m.other)

-- ---- how it ends

-- nothing more is done than to answer this
abbrev pub OnlyAnswers : LogEnding → LogEnding → Deeds → Type 0
OnlyAnswers v e d = (e ≡ v) × IsIdle d

-- a text was printed, or the console failed at it
abbrev pub EndsPrinted : LogEnding → Deeds → Type 0
EndsPrinted e d = OnlyAnswers ConsoleFault e d ⊎ OnlyAnswers Done e d

-- what is found is answered
abbrev pub EndsFound : (LogEnding → Type 0) → LogEnding → Deeds → Type 0
EndsFound finds e d = finds e × IsIdle d

-- the map is saved
abbrev pub EndsSaved : Command → (text : List ℕ) → LogEnding → Deeds → Type 0
EndsSaved c text = Works log_faults (Make (save_calls (names_of c.mapfile) text) ∷ []) (OnlyAnswers Done)

-- The list is taken from the feed, which may fail, and may be refused. Then the map of its blocks is saved.
abbrev pub EndsCreated : (listed rest : Status) → Command → (line list : List ℕ) → Maps → LogEnding → Deeds → Type 0
EndsCreated listed rest c line list m e d =
    OnlyAnswers FeedFault e d
    ⊎ Works log_faults (Look (ListRefused c.options list) ∷ [])
    (λ e d. (numbers text : List ℕ) × (numbers_in (shape_of c.options) list ≡ Ok numbers)
    × IsCreated c listed rest line m numbers text × EndsSaved c text e d) e d

-- a mapfile is removed, and that is settled
abbrev pub removal_calls : (name : List ℕ) → List Call
removal_calls name = map_remove name ∷ map_settle name ∷ []

-- a map that isn't done is answered so
abbrev pub IsNotDone : Command → Maps → LogEnding → Type 0
IsNotDone c m e = IsOpenIn (domain_of c m) m.statuses × (e ≡ NotDone)

-- A map that was tested is answered, or removed if it is done.
abbrev pub EndsTested : (removes : Bool) → Command → Maps → LogEnding → Deeds → Type 0
EndsTested false c m = EndsFound (FindsDone c m)
EndsTested true c m =
    Works log_faults (Look (IsNotDone c m) ∷ Make (removal_calls c.mapfile) ∷ []) (OnlyAnswers Done)

-- ---- what it leaves in the place of the mapfile

-- nothing, if the mapfile is done and is to be removed
abbrev pub LeavesNone : (removes : Bool) → Command → Maps → (found : Option File) → Type 0
LeavesNone false c m found = ⊥
LeavesNone true c m found = IsDoneIn (domain_of c m) m.statuses × (found ≡ None)

-- the map that is created, whole
abbrev pub LeavesMap : (listed rest : Status) → Command → (line list : List ℕ) → Maps → (found : Option File) → Type 0
LeavesMap listed rest c line list m found =
    (numbers text : List ℕ) × (numbers_in (shape_of c.options) list ≡ Ok numbers)
    × IsCreated c listed rest line m numbers text × (found ≡ Some (text_file text))

-- ---- the rows

-- What a mode does over its maps:
pub record ModeWork : Type 1 where
  -- It tests whether a map is done, compares two maps, or reads the places of its positions in the output.
  pub tests : Bool
  pub compares : Bool
  pub looks_at_places : Bool
  -- It prints a text on standard output. Some put it in pieces of at most 4,096 bytes, as they make them.
  pub prints : Bool
  pub puts_pieces : Bool
  pub text : Command → (line : List ℕ) → Maps → List ℕ
  -- It answers by what it finds in the maps.
  pub Finds : Command → Maps → LogEnding → Type 0
  -- It ends so over its maps,
  pub Ends : Command → (line list : List ℕ) → Maps → LogEnding → Deeds → Type 0
  -- and may leave this in the place of the mapfile.
  pub Leaves : Command → (line list : List ℕ) → Maps → (found : Option File) → Type 0

-- a mode that prints a text, and leaves all files
abbrev pub printing : (in_pieces : Bool) → (Command → (line : List ℕ) → Maps → List ℕ) → ModeWork
printing in_pieces text = record {
  tests = false;
  compares = false;
  looks_at_places = false;
  prints = true;
  puts_pieces = in_pieces;
  text = text;
  Finds = λ c m e. e ≡ Done;
  Ends = λ c line list m. EndsPrinted;
  Leaves = λ c line list m found. ⊥;
}

-- a mode that prints a map with these statuses
abbrev pub printing_map : (Command → Maps → List Status) → ModeWork
printing_map statuses = printing false (λ c line m. map_text line m.shown (statuses c m))

-- a mode that prints nothing, and answers what it finds
abbrev pub answering : (Command → Maps → LogEnding → Type 0) → ModeWork
answering finds = record (printing false (λ c line m. [])) {
  prints = false;
  Finds = finds;
  Ends = λ c line list m. EndsFound (finds c m);
}

-- each mode's row
abbrev pub mode_work : LogMode → ModeWork
mode_work (Change change) = printing_map (λ c m. changed_map (domain_of c m) change m.statuses)
mode_work (Combine op) = printing_map (λ c m. combined_map op (domain_of c m) m.statuses m.other)
mode_work (Complete status) = printing_map (λ c m. m.statuses)
mode_work (ListBlocks types) =
    record (printing true (λ c line m. flat_map number_line (listed (wanted_by c types m)))) { looks_at_places = true }
mode_work (Create listed rest) = record (answering (λ c m e. e ≡ Done)) {
  Ends = EndsCreated listed rest;
  Leaves = LeavesMap listed rest;
}
mode_work (Test removes) = record (answering FindsDone) {
  tests = true;
  Ends = λ c line list m. EndsTested removes c m;
  Leaves = λ c line list m. LeavesNone removes c m;
}
mode_work (Compare finished) = record (answering (FindsSame finished)) { compares = true }
mode_work Summarize = printing true (λ c line m. summary_text m.shown (summary_of (domain_of c m) m.statuses))

-- what the rows say
abbrev pub tests : LogMode → Bool
tests mode = (mode_work mode).tests

abbrev pub compares : LogMode → Bool
compares mode = (mode_work mode).compares

abbrev pub looks_at_places : LogMode → Bool
looks_at_places mode = (mode_work mode).looks_at_places

abbrev pub prints : LogMode → Bool
prints mode = (mode_work mode).prints

abbrev pub puts_pieces : LogMode → Bool
puts_pieces mode = (mode_work mode).puts_pieces

abbrev pub text_of : LogMode → Command → (line : List ℕ) → Maps → List ℕ
text_of mode = (mode_work mode).text

abbrev pub Finds : LogMode → Command → Maps → LogEnding → Type 0
Finds mode = (mode_work mode).Finds

abbrev pub EndsAs : LogMode → Command → (line list : List ℕ) → Maps → LogEnding → Deeds → Type 0
EndsAs mode = (mode_work mode).Ends

abbrev pub Replaces : LogMode → Command → (line list : List ℕ) → Maps → (found : Option File) → Type 0
Replaces mode = (mode_work mode).Leaves
