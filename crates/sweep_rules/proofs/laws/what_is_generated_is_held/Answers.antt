use Rattle.sweep_rules.proofs.SweepLemmas.{generates_what_is_held}
use Rattle.sweep_rules.proofs.laws.what_is_generated_is_held.Goals as goal

pub returns : goal.returns
returns c = generates_what_is_held
