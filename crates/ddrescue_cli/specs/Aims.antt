-- What a command's files are for: the task, the mapfile that it wants, and the work after the words.
-- For contracts and proofs: no promise uses it.
use Rattle.std.specs.Prelude.{◌≡◌, ⊤, true, is_some, ℕ, Bool, List}
use Rattle.ddrescue_words.specs.Command.{Command, Task, Rescue, Fill, Generate}
use Rattle.ddrescue_cli.specs.declared.aim.Aim.{Aim}
use Rattle.ddrescue_cli.specs.declared.aim.Aim.TheVariants.{Rescue as ToRescue, Fill as ToFill, Generate as ToGenerate}
use Rattle.rescue_rules.specs.Across.{Across}
use Rattle.task_files.specs.declared.ending.Ending.{Ending}
use Rattle.task_files.specs.Steps.{Worked}
use Rattle.task_sweeps.specs.SweepSteps.{WorkedFill, WorkedGenerate}

-- what files are for, as a task
abbrev pub task_for : Aim → Command → Task
task_for ToRescue c = Rescue c
task_for (ToFill types) c = Fill types c
task_for ToGenerate c = Generate c

-- a mapfile is named, if what files are for wants one
abbrev pub IsNamedFor : Aim → Command → Type 0
IsNamedFor ToRescue c = ⊤
IsNamedFor (ToFill types) c = is_some c.mapfile ≡ true
IsNamedFor ToGenerate c = is_some c.mapfile ≡ true

-- what was done after the words, by what files are for
abbrev pub WorkedFor : Aim → Command → (line : List ℕ) → (heard heard' : Bool) → Ending → Across → Type 0
WorkedFor ToRescue c line heard heard' e o = Worked c line heard heard' e o
WorkedFor (ToFill types) c line heard heard' e o = WorkedFill types c line heard heard' e o
WorkedFor ToGenerate c line heard heard' e o = WorkedGenerate c line heard heard' e o
