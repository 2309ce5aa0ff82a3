-- `ddrescuepart` as a program, and its promise.
use Rattle.std.specs.Prelude.{⊤, ℕ, Bool, List}
use Rattle.faulty_source.specs.SourceState.{SourceState}
use Rattle.faulty_source.specs.SourceChanges.{Keeps}
use Rattle.rescue_console.specs.ConsoleState.{ConsoleState}
use Rattle.program_promise.specs.World.{WorldState, no_clock, no_feed, no_site, Told}
use Rattle.program_promise.specs.Printing.{PutsText}
use Rattle.program_promise.specs.Program.{Program}
use Rattle.program_promise.specs.Promise.{IsDone, Promise, Worked}
use Rattle.ddrescuepart_words.specs.Command.{Command, part_grammar}
use Rattle.ddrescuepart_cli.specs.declared.ending.PartEnding.{PartEnding}
use Rattle.ddrescuepart_cli.specs.Names.{program_name}
use Rattle.ddrescuepart_cli.specs.Answers.{row_of}
use Rattle.ddrescuepart_cli.specs.Work.{Agrees, ReadsPart, part_faults, part_rows, text_of}

-- what it is handed: a source and a console
abbrev pub handed : SourceState → ConsoleState → WorldState
handed source console =
    record { source = source; site = no_site; clock = no_clock; feed_ = no_feed; console = console }

-- The program's work finds the input's length outside of it. It leaves the text of the partition's map on standard
-- output, or if the put failed a beginning of that, and after every refusal nothing.
abbrev pub part_program : Program Command PartEnding ℕ
part_program = record {
  name = program_name;
  grammar = part_grammar;
  row = row_of;
  faults = part_faults;
  Fits = λ c e. ⊤;
  rows = λ c length. part_rows c;
  Run = λ c line length. ReadsPart c;
  Agrees = λ c length did old new. Agrees length did old.source new.source;
  Leaves = λ c line length e did old new.
      PutsText (row_of e).kind (text_of c line length did) old.console new.console;
  Keeps = λ e old new. Keeps old.source new.source;
}

-- what is done for a command
abbrev pub PartWorked : Command → (words : List (List ℕ)) → PartEnding → (old new : WorldState) → Type 0
PartWorked c words e old new = Worked part_program c words e old new

-- what is done before any message is put
abbrev pub PartDone : (words : List (List ℕ)) → PartEnding → (quiet : Bool) → (old new : WorldState) → Type 0
PartDone words e quiet old new = IsDone part_program words e quiet old new

-- What is promised of a call.
abbrev pub Ddrescuepart : Told PartEnding → Type 0
Ddrescuepart t = Promise part_program t
