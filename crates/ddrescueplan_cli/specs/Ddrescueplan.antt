-- `ddrescueplan` as a program, and its promise.
use Rattle.std.specs.Prelude.{⊤, ℕ, Bool, List, Option}
use Rattle.crash_site.specs.Files.{File}
use Rattle.crash_site.specs.SiteChanges.{Stays}
use Rattle.program_promise.specs.World.{WorldState, Told}
use Rattle.program_promise.specs.Program.{Program}
use Rattle.program_promise.specs.Promise.{IsDone, Promise, Worked}
use Rattle.ddrescueplan_words.specs.Command.{Command, plan_grammar}
use Rattle.ddrescueplan_cli.specs.declared.ending.PlanEnding.{PlanEnding}
use Rattle.ddrescueplan_cli.specs.Names.{program_name}
use Rattle.ddrescueplan_cli.specs.Answers.{row_of}
use Rattle.ddrescueplan_cli.specs.Work.{Agrees, LeavesAs, RunsPlan, plan_faults, plan_rows}

-- The program's work finds the test map's file outside of it, and leaves the plan on standard output.
abbrev pub plan_program : Program Command PlanEnding (Option File)
plan_program = record {
  name = program_name;
  grammar = plan_grammar;
  row = row_of;
  faults = plan_faults;
  Fits = λ c e. ⊤;
  rows = plan_rows;
  Run = λ c line file. RunsPlan file;
  Agrees = λ c file did old new. Agrees c file did old.site new.site;
  Leaves = λ c line file e did old new. LeavesAs c file e did old new;
  Keeps = λ e old new. Stays old.site new.site;
}

-- what is done for a command
abbrev pub PlanWorked : Command → (words : List (List ℕ)) → PlanEnding → (old new : WorldState) → Type 0
PlanWorked c words e old new = Worked plan_program c words e old new

-- what is done before any message is put
abbrev pub PlanDone : (words : List (List ℕ)) → PlanEnding → (quiet : Bool) → (old new : WorldState) → Type 0
PlanDone words e quiet old new = IsDone plan_program words e quiet old new

-- What is promised of a call.
abbrev pub Ddrescueplan : Told PlanEnding → Type 0
Ddrescueplan t = Promise plan_program t
