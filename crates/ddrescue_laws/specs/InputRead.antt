-- What was read of the input, by the answer.
use Rattle.std.specs.Prelude.{◌≡◌, ◌≢◌, ⊤, ℕ, ◌≤◌, length, true, false, List, [], ◌++◌, All, Option}
use Rattle.faulty_source.specs.Journal.{Reading, IsFrom}
use Rattle.faulty_source.specs.SourceState.{SourceState}
use Rattle.block_list.specs.declared.status.Status.{Status}
use Rattle.mapfile_text.specs.declared.state.MapState.{MapState}
use Rattle.crash_site.specs.declared.site.SiteCall.{SiteCall}
use Rattle.crash_site.specs.declared.site.SiteCall.TheVariants.{ImageOpen, MapRead}
use Rattle.rescue_rules.specs.declared.stop.Limit.{Limit}
use Rattle.rescue_rules.specs.declared.stop.Stop.{Stop}
use Rattle.rescue_rules.specs.Setting.{Setting}
use Rattle.rescue_rules.specs.Start.{IsFresh}
use Rattle.rescue_rules.specs.Step.{Event}
use Rattle.rescue_rules.specs.Moves.{state_after, has_ended, IsRun}
use Rattle.rescue_rules.specs.Beginning.{machine_over}
use Rattle.rescue_rules.specs.Events.{reads_of}
use Rattle.run_laws.specs.Bounds.{AskFew}
use Rattle.run_laws.specs.Endings.{EndsWell}
use Rattle.task_files.specs.declared.ending.Ending.{Ending}
use Rattle.task_files.specs.declared.ending.Ending.TheVariants.{Done, SourceLost, SiteFault, LimitMet, NoMemory}
use Rattle.task_files.specs.Maps.{seen_through}

-- a call that a run doesn't make: the open of the output, and a read of a map
abbrev pub IsOfOpening : SiteCall → Type 0
IsOfOpening ImageOpen = ⊤
IsOfOpening MapRead = ⊤
IsOfOpening call = ⊥

-- of a rescue: a refusal or a failed open of the input, before the first read; or a failed call that no run makes
pub record IsBeforeReads (e : Ending) : Type 0 where
  pub done : e ≢ Done
  pub lost : e ≢ SourceLost
  pub within : (limit : Limit) → e ≢ LimitMet limit
  pub room : e ≢ NoMemory
  pub call : (call : SiteCall) (earlier : Option Stop) → e ≡ SiteFault call earlier → IsOfOpening call

-- The reads are, as they are seen, those of a run over some map that reaches the input's end, without a mapfile one
-- that wasn't tried; and gave the input's own bytes; there is none before a refusal.
-- They ask few times for a position; and if the rescue is done no pass has a request left,
-- and each position of the domain is left well.
pub record HasRead (s : Setting) (test : Option (List Status)) (e : Ending) (source source' : SourceState)
    : Type 0 where
  pub statuses : List Status
  pub state : Option MapState
  pub time : ℕ
  pub long : s.end ≤ length statuses
  pub fresh : s.has_mapfile ≡ false → IsFresh s.end statuses state
  pub events : List Event
  pub raw : List Reading
  pub gained : source'.journal ≡ source.journal ++ raw
  pub seen_are : seen_through test raw ≡ reads_of events
  pub run : IsRun s (machine_over s statuses state time) events
  pub right : All (IsFrom source.bytes) (reads_of events)
  pub refused : IsBeforeReads e → raw ≡ []
  pub few : AskFew s (machine_over s statuses state time) events
  pub done : e ≡ Done → has_ended s (state_after s (machine_over s statuses state time) events) ≡ true
  pub well : e ≡ Done → EndsWell s (machine_over s statuses state time) events
