-- What the steps of `ddrescueshow` did, by what the objects tell. For contracts and proofs: no promise uses it.
use Rattle.std.specs.Prelude.{ℕ, Bool, List, Option, Some, Result}
use Rattle.block_list.specs.Tiled.{Tiled, statuses_in}
use Rattle.mapfile_text.specs.declared.read.Mode.{Mode}
use Rattle.crash_site.specs.SiteState.{SiteState, files_in}
use Rattle.crash_site.specs.Files.{file_named}
use Rattle.mapfile_resume.specs.Named.{IsMapOf, HasStatuses}
use Rattle.rescue_console.specs.ConsoleState.{ConsoleState}
use Rattle.program_promise.specs.Parts.{DidPart}
use Rattle.program_promise.specs.Causes.{Changed, changes_of}
use Rattle.ddrescueshow_words.specs.Command.{Command}
use Rattle.program_promise.specs.World.{handed}
use Rattle.ddrescueshow_cli.specs.declared.ending.Which.{Which}
use Rattle.ddrescueshow_cli.specs.declared.ending.ShowEnding.{ShowEnding}
use Rattle.ddrescueshow_cli.specs.Answers.{row_of}
use Rattle.ddrescueshow_cli.specs.Work.{Found, LeavesAs, map_rows, show_faults}

-- what the read of a map that is named did
abbrev pub ReadsMap : Which → Mode → (name : List ℕ) → Result Tiled ShowEnding → (old new : SiteState) → Type 0
ReadsMap which mode name result old new =
    DidPart show_faults (map_rows which mode (Some name)) (files_in old name)
    (λ (tiles : Tiled) file. IsMapOf file mode tiles.statuses) result old new

-- what the read of a map that may be named did
abbrev pub ReadsNamed : Which → Mode → (name : Option (List ℕ)) → Result (Option Tiled) ShowEnding
    → (old new : SiteState) → Type 0
ReadsNamed which mode name result old new =
    DidPart show_faults (map_rows which mode name) (file_named name (files_in old))
    (λ (tiles : Option Tiled) file. HasStatuses name mode file (statuses_in tiles)) result old new

-- Why the read of a map stopped, as the answer's row says, after which nothing is put.
pub record ReadCause (e : ShowEnding) (old new : SiteState) : Type 0 where
  pub cause : (console : ConsoleState) → Changed (changes_of (row_of e).kind) (handed old console) (handed new console)
  pub unput : (terminal : Bool) (c : Command) (found : Found) (console : ConsoleState)
      → LeavesAs terminal c found e console console
  pub also : (row_of e).also
