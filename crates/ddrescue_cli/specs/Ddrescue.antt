-- `ddrescue` as a program, and its promise. What an object tells is its own: the forms in memory tell all, those for
-- real files their counts and what is open.
use Rattle.std.specs.Prelude.{◌≡◌, ℕ, Bool, List}
use Rattle.faulty_source.specs.SourceChanges.{Keeps as SourceKeeps}
use Rattle.crash_site.specs.SiteChanges.{Keeps as SiteKeeps}
use Rattle.rescue_console.specs.ClockState.{Keeps as ClockKeeps}
use Rattle.ddrescue_words.specs.Command.{Task}
use Rattle.ddrescue_words.specs.Asking.{rescue_grammar}
use Rattle.program_promise.specs.World.{WorldState, with_console}
use Rattle.program_promise.specs.Program.{Program, line_by}
use Rattle.program_promise.specs.Promise.{DoneFor}
use Rattle.program_promise.specs.Spoken.{SpokenPromise, IsSaid}
use Rattle.task_files.specs.declared.ending.Ending.{Ending}
use Rattle.task_files.specs.Answers.{drafting_left, row_of}
use Rattle.task_files.specs.Names.{program_name}
use Rattle.task_files.specs.Work.{rescue_faults}
use Rattle.ddrescue_cli.specs.Told.{Told}
use Rattle.ddrescue_cli.specs.Tasks.{TaskOutside, LeavesAs, TaskAgrees, TaskRuns, task_rows}
use Rattle.ddrescue_cli.specs.Words.{FitsTask}

-- What was told before stays. A draft is left begun if and only if an append to it failed, or its sync. (A file of its
-- name may be left after any failed call of a save.)
pub record KeepsAs (e : Ending) (old new : WorldState) : Type 0 where
  pub draft : new.site.is_drafting ≡ drafting_left e
  pub source : SourceKeeps old.source new.source
  pub site : SiteKeeps old.site new.site
  pub clock : ClockKeeps old.clock new.clock

-- Its work is that of a task, by what its words ask for.
abbrev pub rescue_program : Program Task Ending TaskOutside
rescue_program = record {
  name = program_name;
  grammar = rescue_grammar;
  row = row_of;
  faults = rescue_faults;
  Fits = FitsTask;
  rows = task_rows;
  Run = TaskRuns;
  Agrees = TaskAgrees;
  Leaves = LeavesAs;
  Keeps = KeepsAs;
}

-- what is done for a task, on all objects but the console
abbrev pub TaskDone : Task → Told → Type 0
TaskDone task t =
    DoneFor rescue_program task (line_by rescue_program t.words) t.answer t.before
    (with_console t.after t.before.console)

-- what a call says before its message, whether it is heard then or not
abbrev pub TaskSaid : (words : List (List ℕ)) → Ending → (heard : Bool) → (old new : WorldState) → Type 0
TaskSaid words e heard old new = IsSaid rescue_program (λ o. o.lines) words e heard old new

-- What is promised of a call: the words ask for a task, and besides the message of its answer only its lines are put.
abbrev pub Ddrescue : Told → Type 0
Ddrescue t = SpokenPromise rescue_program (λ o. o.lines) t
