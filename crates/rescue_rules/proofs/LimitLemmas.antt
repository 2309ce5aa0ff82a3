-- When a limit is looked at, and that none is met if there is none.
use Rattle.std.proofs.Common.{◌≡◌, Bool, true, false, not, Option, None, refl, ap, ◌∙◌, if◌then◌else◌}
use Rattle.run_options.specs.declared.limits.Limits.{Limits}
use Rattle.run_options.specs.Limits.{no_limits}
use Rattle.rescue_rules.specs.declared.stop.Limit.{Limit}
use Rattle.rescue_rules.specs.Setting.{Setting}
use Rattle.rescue_rules.specs.Machine.{Machine}
use Rattle.rescue_rules.specs.Step.{limit_met}
use Rattle.rescue_rules.specs.Limiting.{LimitsAfterEvents}

pub limits_after_events : LimitsAfterEvents
limits_after_events s map from shown time m e = record { first = refl; after = refl }

either_way : (b : Bool) (met : Option Limit) → (if b then met else met) ≡ met
either_way true met = refl
either_way false met = refl

-- a setting without limits meets none
pub none_met : (s : Setting) (m : Machine) → s.limits ≡ no_limits → limit_met s m ≡ None
none_met s m none = ap (λ (l : Limits). limit_met (record s { limits = l }) m) none ∙ either_way (not m.tally.had_event) None
