-- `ddrescueshow` as a program, and its promise.
use Rattle.std.specs.Prelude.{⊤, ℕ, Bool, List}
use Rattle.crash_site.specs.SiteChanges.{Stays}
use Rattle.program_promise.specs.World.{WorldState, Told}
use Rattle.program_promise.specs.Program.{Program}
use Rattle.program_promise.specs.Promise.{IsDone, Promise, Worked}
use Rattle.ddrescueshow_words.specs.Command.{Command, show_grammar}
use Rattle.ddrescueshow_cli.specs.declared.ending.ShowEnding.{ShowEnding}
use Rattle.ddrescueshow_cli.specs.Names.{program_name}
use Rattle.ddrescueshow_cli.specs.Answers.{row_of}
use Rattle.ddrescueshow_cli.specs.Work.{Agrees, Found, LeavesAs, PutsAll, show_faults, show_rows}

-- The program's work finds the files of the maps outside of it, and leaves the picture on standard output, which may be
-- a terminal.
abbrev pub show_program : (terminal : Bool) → Program Command ShowEnding Found
show_program terminal = record {
  name = program_name;
  grammar = show_grammar;
  row = row_of;
  faults = show_faults;
  Fits = λ c e. ⊤;
  rows = show_rows;
  Run = λ c line found. PutsAll;
  Agrees = λ c found did old new. Agrees c found did old.site new.site;
  Leaves = λ c line found e did old new. LeavesAs terminal c found e old.console new.console;
  Keeps = λ e old new. Stays old.site new.site;
}

-- what is done for a command
abbrev pub ShowWorked : (terminal : Bool) → Command → (words : List (List ℕ)) → ShowEnding → (old new : WorldState)
    → Type 0
ShowWorked terminal c words e old new = Worked (show_program terminal) c words e old new

-- what is done before any message is put
abbrev pub ShowDone : (terminal : Bool) → (words : List (List ℕ)) → ShowEnding → (quiet : Bool)
    → (old new : WorldState) → Type 0
ShowDone terminal words e quiet old new = IsDone (show_program terminal) words e quiet old new

-- What is promised of a call.
abbrev pub Ddrescueshow : (terminal : Bool) → Told ShowEnding → Type 0
Ddrescueshow terminal t = Promise (show_program terminal) t
