-- `ddrescueverify` as a program, and its promise.
use Rattle.std.specs.Prelude.{◌≡◌, ◌≢◌, ℕ, Bool, IsTrue, List}
use Rattle.faulty_source.specs.SourceState.{SourceState}
use Rattle.faulty_source.specs.SourceChanges.{Keeps as SourceKeeps}
use Rattle.crash_site.specs.SiteState.{SiteState, files_in}
use Rattle.crash_site.specs.SiteChanges.{Keeps as SiteKeeps}
use Rattle.rescue_console.specs.ConsoleState.{ConsoleState}
use Rattle.mapfile_save.specs.MapNames.{names_of}
use Rattle.program_promise.specs.Work.{Deeds}
use Rattle.rescue_verify.specs.Across.{across}
use Rattle.rescue_verify.specs.Comparing.{tally_of}
use Rattle.ddrescueverify_words.specs.Command.{Command, verify_grammar}
use Rattle.program_promise.specs.World.{WorldState, no_clock, no_feed, Told}
use Rattle.program_promise.specs.Printing.{PutsByKind}
use Rattle.program_promise.specs.Program.{Program}
use Rattle.program_promise.specs.Promise.{IsDone, Promise, Worked}
use Rattle.ddrescueverify_cli.specs.declared.ending.VerifyEnding.{VerifyEnding}
use Rattle.ddrescueverify_cli.specs.Answers.{drafting_left, row_of}
use Rattle.ddrescueverify_cli.specs.Names.{program_name}
use Rattle.ddrescueverify_cli.specs.Refusals.{FitsNames, same_of}
use Rattle.ddrescueverify_cli.specs.Reporting.{FailsLine, PutsLine, line_of_tally}
use Rattle.ddrescueverify_cli.specs.Stops.{StopsSafely}
use Rattle.ddrescueverify_cli.specs.Outside.{Outside, Agrees}
use Rattle.ddrescueverify_cli.specs.Work.{Verifies, verify_faults, verify_rows}

-- what it is handed: a source, a site and a console
abbrev pub handed : SourceState → SiteState → ConsoleState → WorldState
handed source site console =
    record { source = source; site = site; clock = no_clock; feed_ = no_feed; console = console }

-- what is put on standard output by the answer: the line on these looks, or if that failed a beginning of it
abbrev pub PutsAs : VerifyEnding → (quiet : Bool) → (line : List ℕ) → (old new : ConsoleState) → Type 0
PutsAs e quiet line old new =
    PutsByKind (row_of e).kind (PutsLine quiet line old new) (FailsLine quiet line old new) (new ≡ old) old new

-- What the work leaves:
pub record LeavesAs (c : Command) (line : List ℕ) (o : Outside) (e : VerifyEnding) (did : Deeds) (old new : WorldState)
    : Type 0 where
  -- the command line that a saved map shows is the call's own;
  pub line_is : o.line ≡ line
  -- on standard output the line of a comparison that came to its end, and after every refusal nothing.
  pub out : PutsAs e c.options.quiet (line_of_tally (tally_of o.looks)) old.console new.console
  -- If the files tell: at whatever moment the call is stopped, the output is found as it was, and the mapfile as it was
  -- or as the new one, whole.
  pub stops : IsTrue old.site.tells → StopsSafely c line o did old.site e
  -- Every file reads as it did, except for the mapfile and its draft.
  pub others : IsTrue old.site.tells → (name : List ℕ) → name ≢ c.mapfile → name ≢ (names_of c.mapfile).draft
      → files_in new.site name ≡ files_in old.site name

-- What was told before stays, and a draft is left begun if and only if an append to it failed, or its sync.
pub record KeepsAs (e : VerifyEnding) (old new : WorldState) : Type 0 where
  pub draft : new.site.is_drafting ≡ drafting_left e
  pub source : SourceKeeps old.source new.source
  pub site : SiteKeeps old.site new.site

-- Of the files its work reads the output and the mapfile, and it saves the mapfile.
abbrev pub verify_program : Program Command VerifyEnding Outside
verify_program = record {
  name = program_name;
  grammar = verify_grammar;
  row = row_of;
  faults = verify_faults;
  Fits = λ c e. FitsNames (same_of c) e;
  rows = λ c o. verify_rows c o.found o.end;
  Run = λ c line o. Verifies c o.line o.found o.end o.looks;
  Agrees = λ c o did old new. Agrees c o did (across old.source new.source old.site new.site);
  Leaves = LeavesAs;
  Keeps = KeepsAs;
}

-- what is done for a command
abbrev pub VerifyWorked : Command → (words : List (List ℕ)) → VerifyEnding → (old new : WorldState) → Type 0
VerifyWorked c words e old new = Worked verify_program c words e old new

-- what is done before any message is put on standard error
abbrev pub VerifyDone : (words : List (List ℕ)) → VerifyEnding → (quiet : Bool) → (old new : WorldState) → Type 0
VerifyDone words e quiet old new = IsDone verify_program words e quiet old new

-- What is promised of a call.
abbrev pub Ddrescueverify : Told VerifyEnding → Type 0
Ddrescueverify t = Promise verify_program t
