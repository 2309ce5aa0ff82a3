-- `ddrescuelog` as a program, and its promise.
use Rattle.std.specs.Prelude.{◌≡◌, ◌≢◌, ◌⊎◌, ℕ, Bool, true, IsTrue, List}
use Rattle.crash_site.specs.SiteState.{SiteState, files_in}
use Rattle.crash_site.specs.SiteChanges.{Keeps as SiteKeeps}
use Rattle.rescue_console.specs.FeedState.{FeedState, Keeps as FeedKeeps}
use Rattle.rescue_console.specs.ConsoleState.{ConsoleState}
use Rattle.mapfile_save.specs.MapNames.{names_of}
use Rattle.mapfile_save.specs.SaveStops.{IsEmptyDraft}
use Rattle.program_promise.specs.Work.{Deeds}
use Rattle.rescue_rules.specs.Across.{no_source}
use Rattle.program_promise.specs.World.{WorldState, no_clock, Told}
use Rattle.program_promise.specs.Kinds.{AtCall, Failed}
use Rattle.program_promise.specs.Program.{Program}
use Rattle.program_promise.specs.Promise.{IsDone, Promise, Worked}
use Rattle.ddrescuelog_words.specs.Modes.{creates}
use Rattle.ddrescuelog_words.specs.Command.{Command, log_grammar}
use Rattle.ddrescuelog_cli.specs.declared.ending.LogEnding.{LogEnding}
use Rattle.ddrescuelog_cli.specs.Names.{program_name}
use Rattle.ddrescuelog_cli.specs.Modes.{prints, puts_pieces, text_of, log_faults}
use Rattle.ddrescuelog_cli.specs.Outside.{Agrees, Outside}
use Rattle.ddrescuelog_cli.specs.Work.{RunsAs, first_rows}
use Rattle.ddrescuelog_cli.specs.Stops.{IsChanging, StopsSafely, OnlyReads, LeavesFiles, LeavesAll}
use Rattle.ddrescuelog_cli.specs.Answers.{FitsCommand, TakesFeed, drafting_left, row_of}
use Rattle.ddrescuelog_cli.specs.Printing.{PutsAs, PutsInPieces}

-- what it is handed: files, a feed and a console
abbrev pub handed : SiteState → FeedState → ConsoleState → WorldState
handed site feed console =
    record { source = no_source; site = site; clock = no_clock; feed_ = feed; console = console }

-- What its work leaves:
pub record LeavesAs (c : Command) (line : List ℕ) (o : Outside) (e : LogEnding) (did : Deeds) (old new : WorldState)
    : Type 0 where
  -- A map that is saved shows the command line.
  pub named : o.line ≡ line
  -- What is put on standard output is what the mode prints of the maps, or, if that failed, a beginning of it.
  pub out : PutsAs (prints c.mode) e (text_of c.mode c line o.maps) old.console new.console
  -- -l and -t put their text in pieces of at most 4,096 bytes, each by one put.
  pub pieces : puts_pieces c.mode ≡ true → PutsInPieces e (text_of c.mode c line o.maps) old.console new.console
  -- The feed is taken from only to create a map; then, once its numbers are read, nothing of it is left.
  pub takes : TakesFeed (creates c.mode) e old.feed_ new.feed_
  -- If the files tell: at whatever moment the call is stopped, the mapfile that is found is one that could be found
  -- before, or the created map, whole, or none if it was done and is to be removed. Every other file but the draft is
  -- found as it could be before. So is the draft unless a map is created, except that -d may leave one that was absent
  -- empty.
  pub stops : StopsSafely c line o.list o.maps old.site did.gain.calls e
  -- A mode that only reads leaves everything as it was, and so does any other if the work isn't done and no call on the
  -- files failed: the files as they read, and what a stop may find of them.
  pub stands : OnlyReads c.mode ⊎ LeavesFiles e → IsTrue old.site.tells
      → ((name : List ℕ) → files_in new.site name ≡ files_in old.site name) × LeavesAll old.site did.gain.calls
  -- Always all files read as they did, except the mapfile and the draft of a map that is created; and a -d of which a
  -- call failed may have left an absent draft empty.
  pub others : IsTrue old.site.tells → (name : List ℕ) → name ≢ c.mapfile
      → (creates c.mode ≡ true → name ≢ (names_of c.mapfile).draft)
      → (files_in new.site name ≡ files_in old.site name)
      ⊎ (((row_of e).kind ≡ Failed AtCall) × IsChanging c.mode
      × IsEmptyDraft old.site (names_of c.mapfile).draft name (files_in new.site name))

-- What stays of files and feed, also whether an image is open. A draft is left begun if and only if an append to it
-- failed, or its sync.
pub record LogKeeps (e : LogEnding) (old new : WorldState) : Type 0 where
  pub site : SiteKeeps old.site new.site
  pub feed_ : FeedKeeps old.feed_ new.feed_
  pub image : new.site.is_open ≡ old.site.is_open
  pub draft : new.site.is_drafting ≡ drafting_left e

-- Its work finds the maps and the list outside of it.
abbrev pub log_program : Program Command LogEnding Outside
log_program = record {
  name = program_name;
  grammar = log_grammar;
  row = row_of;
  faults = log_faults;
  Fits = λ c e. FitsCommand e c;
  rows = λ c o. first_rows (creates c.mode) c o.found;
  Run = λ c line o. RunsAs (creates c.mode) c o.line o.list o.found o.maps;
  Agrees = Agrees;
  Leaves = LeavesAs;
  Keeps = LogKeeps;
}

-- what is done for a command
abbrev pub LogWorked : Command → (words : List (List ℕ)) → LogEnding → (old new : WorldState) → Type 0
LogWorked c words e old new = Worked log_program c words e old new

-- what is done before any message is put
abbrev pub LogDone : (words : List (List ℕ)) → LogEnding → (quiet : Bool) → (old new : WorldState) → Type 0
LogDone words e quiet old new = IsDone log_program words e quiet old new

-- What is promised of a call.
abbrev pub Ddrescuelog : Told LogEnding → Type 0
Ddrescuelog t = Promise log_program t
