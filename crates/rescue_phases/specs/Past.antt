-- A run between two of its phases. For contracts, laws and proofs: no promise uses it.
use Rattle.std.specs.Prelude.{◌≡◌, false, drop, None}
use Rattle.rescue_rules.specs.declared.phase.Phase.{Phase}
use Rattle.rescue_rules.specs.Setting.{IsSensible}
use Rattle.rescue_rules.specs.Passes.{passes_after}
use Rattle.rescue_rules.specs.Machine.{has_request}
use Rattle.rescue_rules.specs.Step.{limit_met}
use Rattle.rescue_core.specs.RunState.{RunState, setting_in}

-- A run that is past a phase: it has met no limit, its pass has no request left, and those that follow are the passes
-- after that phase.
-- The pass may be one of an earlier phase, if none of this one was asked for.
pub record IsPast (phase : Phase) (r : RunState) : Type 0 where
  pub sensible : IsSensible (setting_in r)
  pub within : limit_met (setting_in r) r.machine ≡ None
  pub spent : has_request (setting_in r) r.machine ≡ false
  pub left : drop 1 r.machine.passes ≡ passes_after (setting_in r) phase
