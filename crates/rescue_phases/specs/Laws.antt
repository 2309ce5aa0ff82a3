-- What the definitions mean.
use Rattle.std.specs.Prelude.{◌≡◌, ℕ, Bool, false, List, ◌∷◌, length, Option}
use Rattle.block_list.specs.declared.block.Range.{Range}
use Rattle.block_list.specs.declared.status.Status.{Status}
use Rattle.mapfile_text.specs.declared.state.MapState.{MapState}
use Rattle.mapfile_save.specs.MapNames.{MapNames}
use Rattle.rescue_rules.specs.Setting.{Setting}
use Rattle.rescue_rules.specs.Passes.{Pass}
use Rattle.rescue_rules.specs.Machine.{Machine, has_request}
use Rattle.rescue_rules.specs.Step.{Event}
use Rattle.rescue_rules.specs.Moves.{moves, state_after, begun, IsRun}
use Rattle.rescue_domain.specs.Parts.{covers}
use Rattle.run_options.specs.declared.settings.Settings.{Settings}
use Rattle.run_options.specs.Settings.{IsSound, Suits}
use Rattle.rescue_core.specs.RunState.{RunState, started, run_showing}
use Rattle.rescue_phases.specs.Turns.{IsAlike}
use Rattle.rescue_phases.specs.Copying.{MayCopy}

-- alike states have the same runs, by the same moves, which lead to alike states
pub record GoesAlike (s : Setting) (m n : Machine) (events : List Event) : Type 0 where
  pub moves_are : moves s n events ≡ moves s m events
  pub run : IsRun s m events → IsRun s n events
  pub state : IsAlike s (state_after s m events) (state_after s n events)

-- Alike states go on alike, whatever the events.
abbrev pub AlikeGoAlike : Type 0
AlikeGoAlike = (s : Setting) (m n : Machine) (events : List Event) → IsAlike s m n → GoesAlike s m n events

-- a state without a request and the start of its next pass are alike
abbrev pub NextPassIsAlike : Type 0
NextPassIsAlike = (s : Setting) (m : Machine) (c p : Pass) (ps : List Pass) → has_request s m ≡ false
    → m.passes ≡ c ∷ p ∷ ps → IsAlike s m (begun s m p ps)

-- a run at its start may go on with copying
abbrev pub StartMayCopy : Type 0
StartMayCopy = (settings : Settings) (domain : List Range) (names : Option MapNames) (line : List ℕ) (map : List Status)
    (loaded : Option MapState) (moment : ℕ) (heard : Bool) → IsSound settings
    → Suits settings (covers domain) (length map)
    → MayCopy (started settings domain names line map loaded moment heard)

-- a run that may go on with copying may do so if it shows another state
abbrev pub ShownMayCopy : Type 0
ShownMayCopy = (r : RunState) (state : MapState) → MayCopy r → MayCopy (run_showing r state)
