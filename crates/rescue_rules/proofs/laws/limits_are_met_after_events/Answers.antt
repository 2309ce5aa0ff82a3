use Rattle.rescue_rules.proofs.LimitLemmas.{limits_after_events}
use Rattle.rescue_rules.proofs.laws.limits_are_met_after_events.Goals as goal

pub returns : goal.returns
returns c = limits_after_events
