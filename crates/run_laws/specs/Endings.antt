-- What a run leaves of its domain that went on to its end. For contracts, laws and proofs: no promise uses it.
use Rattle.std.specs.Prelude.{◌≡◌, ℕ, ◌<◌, ◌≤◌, true, false, List, length}
use Rattle.block_list.specs.declared.status.Status.TheVariants.{NonTrimmed, NonScraped, BadSector, Finished}
use Rattle.block_list.specs.Map.{Has}
use Rattle.faulty_source.specs.Journal.{is_failed}
use Rattle.rescue_rules.specs.declared.phase.Phase.TheVariants.{Retrying}
use Rattle.rescue_rules.specs.Setting.{Setting}
use Rattle.rescue_rules.specs.Passes.{Pass, numbered}
use Rattle.rescue_rules.specs.Machine.{Machine, pass_of, is_live}
use Rattle.rescue_rules.specs.Step.{Event}
use Rattle.rescue_rules.specs.Moves.{Move, moves, state_after}
use Rattle.run_laws.specs.Bounds.{MoveAsks}

-- a read of this pass asked for a position, and failed
pub record FailedInPass (pass : Pass) (ms : List Move) (x : ℕ) : Type 0 where
  pub number : ℕ
  pub move : Move
  pub asks : MoveAsks ms number x move
  pub pass_is : pass_of move.before ≡ pass
  pub failed : is_failed move.event.reading ≡ true

-- What events leave of a position. It is rescued; or it wasn't trimmed, and trimming is off; or it wasn't scraped, and
-- scraping is off; or it is bad, and failed once more in each pass of retrying that was asked for.
pub data IsLeftWell (s : Setting) (m : Machine) (events : List Event) (x : ℕ) : Type 0 where
  Rescued : Has (state_after s m events).map Finished x → IsLeftWell s m events x
  Untrimmed : s.passes.trims ≡ false → Has (state_after s m events).map NonTrimmed x → IsLeftWell s m events x
  Unscraped : s.passes.scrapes ≡ false → Has (state_after s m events).map NonScraped x → IsLeftWell s m events x
  Bad : Has (state_after s m events).map BadSector x
      → ((n : ℕ) → 0 < n → n ≤ s.passes.retries → FailedInPass (numbered Retrying n) (moves s m events) x)
      → IsLeftWell s m events x

-- each position is left so that is still in the domain: that lies before the input's end, if a read met it
pub record EndsWell (s : Setting) (m : Machine) (events : List Event) : Type 0 where
  pub each : (x : ℕ) → is_live s (state_after s m events) x ≡ true → x < length m.map → IsLeftWell s m events x
