-- The plan of a rescue: the reads that it would make of an input of which only that can be read which is finished in a
-- test map. There is one run of such reads, and it is the rescue's own.
use Rattle.std.specs.Prelude.{◌≡◌, ℕ, true, false, List, [], length, map, replicate, All, None}
use Rattle.block_list.specs.declared.status.Status.{Status}
use Rattle.block_list.specs.declared.status.Status.TheVariants.{NonTried}
use Rattle.faulty_source.specs.Journal.{Reading}
use Rattle.rescue_domain.specs.Testing.{finished_front}
use Rattle.rescue_rules.specs.Setting.{Setting}
use Rattle.rescue_rules.specs.Machine.{Machine}
use Rattle.rescue_rules.specs.Step.{Event}
use Rattle.rescue_rules.specs.Moves.{state_after, has_ended, IsRun}
use Rattle.rescue_rules.specs.Beginning.{machine_over}
use Rattle.rescue_rules.specs.Events.{reads_of}
use Rattle.ddrescue_words.specs.declared.options.Options.{Options}
use Rattle.rescue_sample.specs.Line.{IsStill}
use Rattle.task_files.specs.Asked.{setting_asked, no_maps}
use Rattle.plan_source.specs.Lines.{PlannedRead, planned}

-- the map of an input that wasn't tried
abbrev pub untried_map : (length : ℕ) → List Status
untried_map length = replicate length NonTried

-- what options ask for of an input with a length, if no file has a name and nothing is saved
abbrev pub plan_setting : Options → (length : ℕ) → Setting
plan_setting o length = setting_asked [] [] None [] o length no_maps

-- the state of a rescue that begins at the time 0, with no mapfile
abbrev pub plan_start : Setting → (length : ℕ) → Machine
plan_start s length = machine_over s (untried_map length) None 0

-- A read gives the bytes before the first position that isn't finished in a test map, and meets no end.
pub record IsPlannedIn (test : List Status) (r : Reading) : Type 0 where
  pub given : length r.given ≡ finished_front test r.pos r.asked
  pub ended : r.ended ≡ false

-- Reads are the first ones of a plan: those of a run from the start, in which no time goes by.
pub record BeginsPlan (s : Setting) (length : ℕ) (test : List Status) (reads : List PlannedRead) : Type 0 where
  pub events : List Event
  pub still : All IsStill events
  pub run : IsRun s (plan_start s length) events
  pub seen : All (IsPlannedIn test) (reads_of events)
  pub are : map planned (reads_of events) ≡ reads

-- Reads are all of a plan: no pass has a request left.
pub record IsPlan (s : Setting) (length : ℕ) (test : List Status) (reads : List PlannedRead) : Type 0 where
  pub begins : BeginsPlan s length test reads
  pub ended : has_ended s (state_after s (plan_start s length) begins.events) ≡ true
