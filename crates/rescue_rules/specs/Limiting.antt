-- When a limit is checked. For contracts and proofs: no promise uses it.
use Rattle.std.specs.Prelude.{◌≡◌, ℕ, true, List, Option, None}
use Rattle.block_list.specs.declared.status.Status.{Status}
use Rattle.mapfile_text.specs.declared.state.MapState.{MapState}
use Rattle.rescue_rules.specs.Setting.{Setting}
use Rattle.rescue_rules.specs.Machine.{Machine}
use Rattle.rescue_rules.specs.Step.{Event, step, limit_met}
use Rattle.rescue_rules.specs.Beginning.{machine_of}

-- no limit is met when a run begins, and after an event limits are checked
pub record LooksAtLimits (s : Setting) (map : List Status) (from : Option MapState) (shown : MapState) (time : ℕ)
    (m : Machine) (e : Event) : Type 0 where
  pub first : limit_met s (machine_of s map from shown time) ≡ None
  pub after : (step s m e).tally.had_event ≡ true

-- Limits are checked after each event of a run, and never before the first one.
abbrev pub LimitsAfterEvents : Type 0
LimitsAfterEvents = (s : Setting) (map : List Status) (from : Option MapState) (shown : MapState) (time : ℕ)
    (m : Machine) (e : Event) → LooksAtLimits s map from shown time m e
