-- What the run of a plan does.
use Rattle.std.specs.Prelude.{◌≡◌, ℕ, true, false, IsTrue, List, [], ◌∷◌, ◌++◌, map, Option, Some, None}
use Rattle.block_list.specs.declared.status.Status.{Status}
use Rattle.rescue_console.specs.declared.console.Channel.TheVariants.{Out}
use Rattle.rescue_console.specs.ConsoleState.{ConsoleState}
use Rattle.rescue_console.specs.Speaking.{PutsBroken, SpeaksOn, out_pieces}
use Rattle.rescue_rules.specs.declared.stop.RunEnd.{RunEnd}
use Rattle.rescue_rules.specs.declared.stop.RunEnd.TheVariants.{Done as RunDone, Stopped, SaveFailed}
use Rattle.rescue_core.specs.RunState.{RunState}
use Rattle.task_rescue.specs.Running.{IsRunOver}
use Rattle.task_files.specs.Asked.{no_maps}
use Rattle.ddrescueplan_words.specs.Command.{Command, AreInLimits}
use Rattle.rescue_plan.specs.declared.run.PlanEnd.{PlanEnd}
use Rattle.rescue_plan.specs.declared.run.PlanEnd.TheVariants.{Whole, Lost}
use Rattle.plan_source.specs.declared.loss.PlanLoss.{PlanLoss}
use Rattle.plan_source.specs.declared.loss.PlanLoss.TheVariants.{Memory, Console}
use Rattle.plan_source.specs.Lines.{PlannedRead, line_of}
use Rattle.rescue_plan.specs.Plan.{plan_setting, BeginsPlan, IsPlan}
pub use Rattle.rescue_plan.specs.Plan.{untried_map}

-- a run at its start over a map of the input's length that wasn't tried, which a command asks for; it isn't heard
abbrev pub BeginsPlannedRun : Command → RunState → Type 0
BeginsPlannedRun c r = IsRunOver None [] c.options.rescue c.length no_maps (untried_map c.length) None 0 false r

-- a plan's run is at its start, and some command asks for it, of an input with this length
pub record IsBegun (length : ℕ) (r : RunState) : Type 0 where
  pub command : Command
  pub limits : AreInLimits command
  pub length_is : command.length ≡ length
  pub begins : BeginsPlannedRun command r

-- how a plan ended, by why reads after its run are lost, if they are, and by how the run ended
abbrev pub end_by : Option PlanLoss → RunEnd → PlanEnd
end_by None RunDone = Whole
end_by None (Stopped stop) = Lost Memory
end_by None (SaveFailed call earlier) = Lost Memory
end_by (Some loss) end = Lost loss

-- the whole plan that a command asks for over a test map was put, each line by one put
pub record PutsPlanWhole (c : Command) (test : List Status) (old new : ConsoleState) : Type 0 where
  pub reads : List PlannedRead
  pub plan : IsPlan (plan_setting c.options.rescue c.length) c.length test reads
  pub says : SpeaksOn (out_pieces (map line_of reads)) true true old new

-- the lines of a plan's first reads were put, each by one put
pub record PutsFirst (c : Command) (test : List Status) (old new : ConsoleState) : Type 0 where
  pub reads : List PlannedRead
  pub first : BeginsPlan (plan_setting c.options.rescue c.length) c.length test reads
  pub says : SpeaksOn (out_pieces (map line_of reads)) true true old new

-- The lines of a plan's first reads were put, each by one put, and then the put of the next one's failed. A beginning
-- of that may be there, and nothing of it if the put failed by a schedule.
pub record PutsPlanBroken (c : Command) (test : List Status) (old new : ConsoleState) : Type 0 where
  pub reads : List PlannedRead
  pub next : PlannedRead
  pub first : BeginsPlan (plan_setting c.options.rescue c.length) c.length test (reads ++ next ∷ [])
  pub between : ConsoleState
  pub says : SpeaksOn (out_pieces (map line_of reads)) true true old between
  pub breaks : PutsBroken (record { channel = Out; text = line_of next }) between new
  pub unput : IsTrue old.is_scheduled → IsTrue old.tells → new.out.text ≡ between.out.text

-- what is put on standard output, by how the plan ended
abbrev pub PutsPlan : Command → List Status → PlanEnd → (old new : ConsoleState) → Type 0
PutsPlan c test Whole old new = PutsPlanWhole c test old new
PutsPlan c test (Lost Memory) old new = PutsFirst c test old new
PutsPlan c test (Lost Console) old new = PutsPlanBroken c test old new
