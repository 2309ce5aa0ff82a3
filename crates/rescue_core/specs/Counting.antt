-- How the counts of a run go on after a read. For contracts and proofs: no promise uses it.
use Rattle.std.specs.Prelude.{◌≡◌, ℕ, ◌+◌, ◌≤◌, Bool, List, length}
use Rattle.block_list.specs.declared.status.Status.{Status}
use Rattle.block_list.specs.Areas.{begins_area}
use Rattle.transfer_token.specs.declared.token.Request.{Request}
use Rattle.rescue_domain.specs.declared.live.Live.{Live}
use Rattle.rescue_domain.specs.Live.{lives}
use Rattle.rescue_rules.specs.declared.phase.Phase.{Phase}
use Rattle.rescue_rules.specs.declared.report.Counts.{Counts}
use Rattle.rescue_rules.specs.Machine.{IsRequest}
use Rattle.rescue_rules.specs.Step.{Event, map_after}
use Rattle.rescue_rules.specs.Counts.{has_failed, has_finished, passing}
use Rattle.rescue_rules.specs.Recounts.{count_within}
use Rattle.rescue_core.specs.declared.turn.Turn.{Turn}
use Rattle.rescue_core.specs.RunState.{RunState, setting_in, IsRunning}
use Rattle.rescue_core.specs.Turning.{turn_of}
use Rattle.rescue_core.specs.TurnParts.{IsReadOf}

-- an event of a run's request, what a turn answers of it, what was left of the domain before it, and the map after its
-- marks
pub record IsMarkedRead (r : RunState) (e : Event) (phase : Phase) (request : Request) (turn : Turn) (live : Live)
    (map : List Status) : Type 0 where
  pub room : ℕ
  pub running : IsRunning r room
  pub phase_is : r.phase ≡ phase
  pub asks : IsRequest (setting_in r) r.machine request.pos (request.pos + request.len)
  pub read : IsReadOf request turn.given turn.ended e.reading
  pub few : length e.reading.given ≤ request.len
  pub answers : turn ≡ turn_of r e
  pub domain_is : live.domain.now ≡ r.domain
  pub over_is : live.over ≡ r.machine.tally.over
  pub map_is : map ≡ map_after (setting_in r) r.machine e.reading

-- the positions that are left of the domain and failed
abbrev pub failed_in : Live → List Status → ℕ → Bool
failed_in live map = passing has_failed (lives live) map

-- the positions that are left of the domain and are finished
abbrev pub finished_in : Live → List Status → ℕ → Bool
finished_in live map = passing has_finished (lives live) map

-- how much is finished and failed from one position up to another
abbrev pub counts_within : (finished failed : ℕ → Bool) → (from to : ℕ) → Counts
counts_within finished failed from to = record {
  rescued = count_within finished from to;
  failed = record { bytes = count_within failed from to; areas = count_within (begins_area failed) from to };
}
