-- What an answer before the first read leaves of the files.
use Rattle.std.specs.Prelude.{◌≡◌, ◌≢◌, ◌⊎◌, ℕ, ◌||◌, Bool, true, false, List, Option, Some, None, is_some}
use Rattle.std.specs.List.{list_any}
use Rattle.mapfile_text.specs.declared.read.MapError.{MapError}
use Rattle.crash_site.specs.declared.site.SiteCall.TheVariants.{ImageOpen, MapRead}
use Rattle.crash_site.specs.Calls.{Entry, Failed, map_settle}
use Rattle.crash_site.specs.Files.{File, empty_file, draft_of}
use Rattle.rescue_rules.specs.declared.stop.Stop.{Stop}
use Rattle.option_words.specs.declared.fault.UsageFault.TheVariants.{PlaceTooLarge}
use Rattle.mapfile_save.specs.MapNames.{names_in}
use Rattle.ddrescue_words.specs.Command.{Command}
use Rattle.task_files.specs.Asked.{names_by}
use Rattle.task_files.specs.declared.ending.Which.TheVariants.{RunMap}
use Rattle.task_files.specs.declared.ending.Ending.{Ending}
use Rattle.task_files.specs.declared.ending.Ending.TheVariants.{Usage, MapRefused, SiteFault}
use Rattle.ddrescue_laws.specs.InputRead.{IsBeforeReads}

-- an option names a map
abbrev pub names_maps : Command → Bool
names_maps c = is_some c.domain_map || is_some c.test_map

-- every file reads as it did
abbrev pub AllStand : (files files' : List ℕ → Option File) → Type 0
AllStand files files' = (name : List ℕ) → files' name ≡ files name

-- an absent file is made, empty
abbrev pub made_of : Option File → Option File
made_of None = Some empty_file
made_of (Some f) = Some f

-- every file reads as it did, except that an absent output was made, empty
pub record OutputMade (outfile : List ℕ) (files files' : List ℕ → Option File) : Type 0 where
  pub output : files' outfile ≡ made_of (files outfile)
  pub others : (name : List ℕ) → name ≢ outfile → files' name ≡ files name

-- every file reads as it did, but that an absent draft was made, empty
pub record DraftMade (draftfile : List ℕ) (files files' : List ℕ → Option File) : Type 0 where
  pub absent : files draftfile ≡ None
  pub made : files' draftfile ≡ Some empty_file
  pub others : (name : List ℕ) → name ≢ draftfile → files' name ≡ files name

-- every file reads as it did, but that an absent output was made, empty, and then an absent draft
abbrev pub OutputAndDraftMade : (outfile draftfile : List ℕ) → (files files' : List ℕ → Option File) → Type 0
OutputAndDraftMade outfile draftfile files files' =
    (between : List ℕ → Option File) × OutputMade outfile files between × DraftMade draftfile between files'

-- a settle that failed
abbrev pub is_unsettled : Entry → Bool
is_unsettled (Failed (map_settle name) steps) = true
is_unsettled entry = false

abbrev pub has_unsettled : List Entry → Bool
has_unsettled calls = list_any is_unsettled calls

-- the name of the draft of a command's mapfile
abbrev pub draft_asked : Command → List ℕ
draft_asked c = draft_of (names_in (names_by c)).map

-- an answer that comes after the open of the output, before the first read
abbrev pub IsAfterOutput : Ending → Type 0
IsAfterOutput e = (e ≡ Usage PlaceTooLarge) ⊎ ((error : MapError) × (e ≡ MapRefused RunMap error))

-- a read of a map that failed: of the mapfile, or if an option names a map maybe of that one
abbrev pub IsMapReadFault : Ending → Type 0
IsMapReadFault e = (earlier : Option Stop) × (e ≡ SiteFault MapRead earlier)

-- an open of the output that failed
abbrev pub IsOpenFault : Ending → Type 0
IsOpenFault e = (earlier : Option Stop) × (e ≡ SiteFault ImageOpen earlier)

-- What an answer before the first read leaves of the files as they read; other answers may leave anything.
pub record IsLeft (e : Ending) (names_maps : Bool) (outfile : List ℕ) (files files' : List ℕ → Option File)
    : Type 0 where
  -- an absent output is made, once the output is open
  pub made : IsAfterOutput e → OutputMade outfile files files'
  pub read : IsMapReadFault e
      → OutputMade outfile files files' ⊎ ((names_maps ≡ true) × AllStand files files')
  -- an open that failed may have made the output
  pub opened : IsOpenFault e → AllStand files files' ⊎ OutputMade outfile files files'
  -- before the open of the output every file is unchanged
  pub stand : IsBeforeReads e → (IsAfterOutput e → ⊥) → (IsMapReadFault e → ⊥) → (IsOpenFault e → ⊥)
      → AllStand files files'
