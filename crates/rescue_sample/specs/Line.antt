-- The line on a sample that was rescued.
use Rattle.std.specs.Prelude.{◌≡◌, ℕ, true, List, [], ◌∷◌, ◌++◌, length, All, count_by, codes}
use Rattle.std.specs.Fmt.{decimal}
use Rattle.faulty_source.specs.Journal.{is_failed}
use Rattle.rescue_rules.specs.declared.report.Counts.{Counts}
use Rattle.rescue_rules.specs.Setting.{Setting}
use Rattle.rescue_rules.specs.Machine.{Machine}
use Rattle.rescue_rules.specs.Step.{Event}
use Rattle.rescue_rules.specs.Moves.{state_after, has_ended, IsRun}
use Rattle.rescue_rules.specs.Counts.{counts_of}
use Rattle.rescue_rules.specs.Events.{reads_of}
use Rattle.rescue_sample.specs.declared.source.Answered.{Answered}
use Rattle.rescue_sample.specs.Sample.{IsSampleRead}

-- an event at which the clock had not moved
pub record IsStill (e : Event) : Type 0 where
  pub before : e.before ≡ 0
  pub after : e.after ≡ 0

-- the run of a rescue over a sample of `kib` KiB that goes on to its end, while the clock stands still
pub record IsSampleRun (kib : ℕ) (s : Setting) (m : Machine) (events : List Event) : Type 0 where
  pub run : IsRun s m events
  pub read : All (λ e. IsSampleRead kib e.reading) events
  pub still : All IsStill events
  pub over : has_ended s (state_after s m events) ≡ true

-- the line of this number of reads and of what there is in the last map
abbrev pub sample_text : (kib : ℕ) → Answered → Counts → List ℕ
sample_text kib answered counts =
    codes "sample of " ++ decimal kib ++ codes " KiB: " ++ decimal answered.reads ++ codes " reads, "
    ++ decimal answered.failed ++ codes " failed, " ++ decimal counts.rescued ++ codes " B rescued, "
    ++ decimal counts.failed.bytes ++ codes " B bad" ++ 10 ∷ []

-- the line of a sample, by the run of a rescue over it that asks for this and begins in this state
pub record IsSampleLine (kib : ℕ) (s : Setting) (m : Machine) (line : List ℕ) : Type 0 where
  pub events : List Event
  pub run : IsSampleRun kib s m events
  pub answered : Answered
  pub reads : answered.reads ≡ length events
  pub failed : answered.failed ≡ count_by is_failed (reads_of events)
  pub text : line ≡ sample_text kib answered (counts_of s.domain (state_after s m events).map)
