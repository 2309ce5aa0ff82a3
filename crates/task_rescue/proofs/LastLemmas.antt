-- A run after its last phase has ended.
use Rattle.std.proofs.Common.{◌≡◌, Bool, true, false, ◌&&◌, List, [], drop, is_none, if◌then◌else◌, ap, ◌∙◌}
use Rattle.rescue_rules.specs.declared.phase.Phase.TheVariants.{Retrying}
use Rattle.rescue_rules.specs.Setting.{Setting}
use Rattle.rescue_rules.specs.Passes.{Pass}
use Rattle.rescue_rules.specs.Machine.{Machine, has_request}
use Rattle.rescue_rules.specs.Step.{limit_met}
use Rattle.rescue_rules.specs.Moves.{ready, at_next, no_pass_left, has_ended}
use Rattle.rescue_core.specs.RunState.{RunState, setting_in}
use Rattle.rescue_phases.specs.Past.{IsPast}

-- no pass is left where the present one has no request and none follows
none_follows : (s : Setting) (m : Machine) → has_request s m ≡ false → drop 1 m.passes ≡ [] → no_pass_left (ready s m).passes ≡ true
none_follows s m off none =
    ap (λ (b : Bool). no_pass_left (if b then m else at_next s m (drop 1 m.passes)).passes) off
    ∙ ap (λ (ps : List Pass). no_pass_left (at_next s m ps).passes) none

pub past_all : (r : RunState) → IsPast Retrying r → has_ended (setting_in r) r.machine ≡ true
past_all r b =
    ap (λ (none : Bool). none && is_none (limit_met (setting_in r) r.machine)) (none_follows (setting_in r) r.machine b.spent b.left)
    ∙ ap is_none b.within
