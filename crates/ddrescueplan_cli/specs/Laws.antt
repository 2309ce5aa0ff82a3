-- What the definitions mean.
use Rattle.std.specs.Prelude.{◌≡◌, Option}
use Rattle.crash_site.specs.Files.{File}
use Rattle.program_promise.specs.Work.{Deeds}
use Rattle.program_promise.specs.WellMade.{IsVerdict as IsVerdictOf}
use Rattle.program_promise.specs.Laws.{IsNoFaultUnless, KeepsPromises}
use Rattle.ddrescueplan_words.specs.Command.{Command}
use Rattle.ddrescueplan_cli.specs.declared.ending.PlanEnding.{PlanEnding}
use Rattle.ddrescueplan_cli.specs.Work.{PlanWorks}
use Rattle.ddrescueplan_cli.specs.Ddrescueplan.{plan_program}

-- an answer that the test map leads to, whatever reads, puts and memory do
abbrev pub IsVerdict : PlanEnding → Type 0
IsVerdict e = IsVerdictOf plan_program e

-- A command and a test map's file lead to at most one answer that is a verdict.
abbrev pub HasOneVerdict : Type 0
HasOneVerdict = (c : Command) (file : Option File) (e e' : PlanEnding) (d d' : Deeds) → PlanWorks c file e d
    → PlanWorks c file e' d' → IsVerdict e → IsVerdict e' → e ≡ e'

-- If the words ask for something and nothing failed, the test map is refused, or the whole plan is put unless memory
-- runs out.
abbrev pub IsPutUnless : Type 0
IsPutUnless = IsNoFaultUnless plan_program

-- What every program keeps.
abbrev pub PlanKeepsPromises : Type 0
PlanKeepsPromises = KeepsPromises plan_program
