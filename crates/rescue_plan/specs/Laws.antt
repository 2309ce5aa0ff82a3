-- What the definitions mean.
use Rattle.std.specs.Prelude.{◌≡◌, ◌↔◌, ℕ, ◌<◌, true, false, IsTrue, List, [], ◌++◌, length, map, All, None}
use Rattle.run_options.specs.Limits.{no_limits}
use Rattle.block_list.specs.declared.status.Status.{Status}
use Rattle.faulty_source.specs.Journal.{Reading, is_whole}
use Rattle.rescue_domain.specs.Testing.{seen}
use Rattle.rescue_rules.specs.Setting.{Setting}
use Rattle.rescue_rules.specs.Nameless.{nameless}
use Rattle.rescue_rules.specs.Step.{Event}
use Rattle.rescue_rules.specs.Moves.{state_after, has_ended, IsRun}
use Rattle.rescue_rules.specs.Beginning.{machine_over}
use Rattle.rescue_rules.specs.Events.{reads_of}
use Rattle.rescue_rules.specs.Start.{IsFresh}
use Rattle.rescue_console.specs.ConsoleState.{ConsoleState, TextGoesOn}
use Rattle.ddrescue_words.specs.declared.options.Options.{Options}
use Rattle.ddrescue_words.specs.Asking.{AreInLimits as AreRescueLimits}
use Rattle.ddrescue_words.specs.Command.{Command as RescueCommand}
use Rattle.task_files.specs.Asked.{setting_of, no_maps}
use Rattle.ddrescueplan_words.specs.Command.{Command, ArePlain}
use Rattle.rescue_plan.specs.declared.run.PlanEnd.{PlanEnd}
use Rattle.rescue_plan.specs.Running.{PutsPlan}
use Rattle.plan_source.specs.Lines.{PlannedRead, planned, lines_of}
use Rattle.mapfile_save.specs.MapNames.{names_in}
use Rattle.rescue_plan.specs.Plan.{untried_map, plan_setting, BeginsPlan, IsPlan}

-- reads begin with others
pub record BeginWith (first reads : List PlannedRead) : Type 0 where
  pub more : List PlannedRead
  pub are : first ++ more ≡ reads

-- A plan begins with any first reads of it, however many they are, and no other reads are a plan.
pub record IsOnePlan (s : Setting) (length : ℕ) (test : List Status) (reads : List PlannedRead) : Type 0 where
  pub begins : (first : List PlannedRead) → BeginsPlan s length test first → BeginWith first reads
  pub alone : (other : List PlannedRead) → IsPlan s length test other → other ≡ reads

-- no option sets a limit, and no read is slow
pub record AreUnlimited (o : Options) : Type 0 where
  pub rate : o.min_rate ≡ 0
  pub limits : o.limits ≡ no_limits

-- If options without a limit have a plan, it is the only one, and it begins with any first reads of it.
abbrev pub PlanIsOne : Type 0
PlanIsOne = (o : Options) (length : ℕ) (test : List Status) (reads : List PlannedRead) → AreUnlimited o
    → IsPlan (plan_setting o length) length test reads → IsOnePlan (plan_setting o length) length test reads

-- Options that words can ask for have a plan, of an input of any length over any test map, unless they limit what may
-- fail.
abbrev pub PlanExists : Type 0
PlanExists = (o : Options) (length : ℕ) (test : List Status) → AreRescueLimits o → o.limits ≡ no_limits
    → (reads : List PlannedRead) × IsPlan (plan_setting o length) length test reads

-- What a plan needs of a setting. It needs no file and no name, and neither where a position is in the output nor how a
-- map is prepared.
abbrev pub plan_part : Setting → Setting
plan_part s = record (nameless s) { has_mapfile = false; names = names_in None; line = []; output_position = 0 }

-- Reads are a plan for a setting, or the first ones of a plan, if and only if they are so for what a plan needs
-- of it.
pub record ArePlannedAlike (s : Setting) (length : ℕ) (test : List Status) (reads : List PlannedRead) : Type 0 where
  pub begin : BeginsPlan (plan_part s) length test reads ↔ BeginsPlan s length test reads
  pub are : IsPlan (plan_part s) length test reads ↔ IsPlan s length test reads

-- The plan for a setting is that for what a plan needs of it.
abbrev pub PlanNeedsNoOutput : Type 0
PlanNeedsNoOutput = (s : Setting) (length : ℕ) (test : List Status) (reads : List PlannedRead)
    → ArePlannedAlike s length test reads

-- If there is a plan, what its run put on standard output is a beginning of its lines, however it ended.
abbrev pub PlanIsBegun : Type 0
PlanIsBegun = (c : Command) (test : List Status) (end : PlanEnd) (old new : ConsoleState) (reads : List PlannedRead)
    → ArePlain c.options.rescue → PutsPlan c test end old new
    → IsPlan (plan_setting c.options.rescue c.length) c.length test reads → IsTrue old.tells
    → TextGoesOn (lines_of reads) old.out.text new.out.text

-- a read that meets the input's end gives less than it was asked for, as each read of a source does
abbrev pub EndsShort : Reading → Type 0
EndsShort r = r.ended ≡ true → length r.given < r.asked

module _ (c : RescueCommand) (line : List ℕ) (length time : ℕ) (test : List Status) where
  -- The reads of a rescue, as they are seen in test mode, if the input gave all that it was asked for: a run over a map
  -- that wasn't tried, at whatever times.
  pub record RescueReads (raw : List Reading) (events : List Event) : Type 0 where
    pub whole : All (λ r. is_whole r ≡ true) raw
    pub ends : All EndsShort raw
    pub seen_are : map (seen test) raw ≡ reads_of events
    pub statuses : List Status
    pub fresh : IsFresh length statuses None
    pub run : IsRun (setting_of c line length no_maps)
        (machine_over (setting_of c line length no_maps) statuses None time)
        events

  -- The rescue's reads are the first ones of the plan for its options, and all of it if no request is left.
  pub record RescueIsPlanned (events : List Event) : Type 0 where
    pub first : BeginsPlan (plan_setting c.options length) length test (map planned (reads_of events))
    pub all : has_ended (setting_of c line length no_maps)
        (state_after (setting_of c line length no_maps)
        (machine_over (setting_of c line length no_maps) (untried_map length) None time) events) ≡ true
        → IsPlan (plan_setting c.options length) length test (map planned (reads_of events))

-- The reads of a rescue in test mode without limits, of an input that gave all that it was asked for, are the first
-- ones of the plan for its options, and all of it if no request is left.
abbrev pub RescuesArePlanned : Type 0
RescuesArePlanned = (c : RescueCommand) (line : List ℕ) (length time : ℕ) (test : List Status) (raw : List Reading)
    (events : List Event) → AreUnlimited c.options → RescueReads c line length time test raw events
    → RescueIsPlanned c line length time test events
